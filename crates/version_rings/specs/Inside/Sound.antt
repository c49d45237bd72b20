-- What holds of the nodes between calls.
use Rattle.std.specs.Prelude.{◌≡◌, ◌<◌, ◌+◌, ℕ, zero, suc, List, length, [], ◌∷◌}
use Rattle.std.specs.Prelude.{slice_index_or, Option, None, Some}
use Rattle.value_data.specs.declared.value.Value.{Value}
use Rattle.version_rings.specs.Inside.Nodes.{Space, node_at, older_at, newer_at}
use Rattle.version_rings.specs.declared.node.Node.{Node}
use Rattle.version_rings.specs.declared.node.Ring.{Ring}

-- Which ring a node is in, counted from 1, or 0 for none; and when it came there. No code holds
-- this: a node is in one ring alone, and at one place of it, since there is such a table.
pub record Marks : Type 0 where
  pub owner : ℕ → ℕ
  pub time : ℕ → ℕ

-- Of so many nodes, from a place on to older ones, each has one owner and came before the one from
-- which a link leads to it. Something holds of each and of the place of that one
abbrev pub Path : (ℕ → ℕ → Type 0) → List Node → Marks → ℕ → ℕ → ℕ → ℕ → ℕ → Type 0
Path P ns m w zero i before from = Unit {0}
Path P ns m w (suc n) i before from =
    (i < length ns) × (m.owner i ≡ w) × (m.time i < before) × P i from
    × Path P ns m w n (older_at ns i) (m.time i) i

-- so many steps to older nodes
abbrev pub step_older : List Node → ℕ → ℕ → ℕ
step_older ns zero i = i
step_older ns (suc n) i = step_older ns n (older_at ns i)

abbrev pub IsLinked : List Node → ℕ → ℕ → Type 0
IsLinked ns i from = newer_at ns i ≡ from

abbrev pub IsEmptied : List Node → ℕ → ℕ → Type 0
IsEmptied ns i from = (node_at ns i).content ≡ Value.Nil

-- the nodes of a ring are linked both ways, and its ends with each other
pub record Circle (ns : List Node) (m : Marks) (w now : ℕ) (ring : Ring) : Type 0 where
  pub behind : ℕ
  pub many : ring.count ≡ suc behind
  pub path :
      Path (IsLinked ns) ns m w (suc behind) ring.newest now (step_older ns behind ring.newest)
  pub closed : older_at ns (step_older ns behind ring.newest) ≡ ring.newest

-- how many nodes are in a ring
abbrev pub nodes_in : Option Ring → ℕ
nodes_in None = 0
nodes_in (Some ring) = ring.count

-- how many are in all of them
abbrev pub total : List (Option Ring) → ℕ
total [] = 0
total (ring ∷ rings) = nodes_in ring + total rings

-- each node is in one ring, or free and emptied
pub record IsSound (s : Space) (rings : List (Option Ring)) : Type 0 where
  pub marks : Marks
  pub now : ℕ
  pub chain : Path (IsEmptied s.nodes) s.nodes marks 0 s.free s.first now s.first
  pub circles : (id : ℕ) (ring : Ring) → slice_index_or rings id None ≡ Some ring
      → Circle s.nodes marks (suc id) now ring
  pub counted : s.free + total rings ≡ length s.nodes
