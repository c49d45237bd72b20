-- The nodes of all rings, in one list, and what each step of the code makes of them.
use Rattle.std.specs.Prelude.{◌<◌, ◌+◌, ℕ, zero, suc, List, [], ◌∷◌, ◌++◌, length}
use Rattle.std.specs.Prelude.{slice_index_or, slice_set, Option, None, Some}
use Rattle.value_data.specs.Inside.View.{view}
use Rattle.value_data.specs.declared.value.Value.{Value}
use Rattle.version_rings.specs.Versions.{Version, version}
use Rattle.version_rings.specs.declared.node.Node.{Node}
use Rattle.version_rings.specs.declared.node.Ring.{Ring}

-- a node that holds nil
abbrev pub empty_node : ℕ → ℕ → Node
empty_node older newer =
    record { stamp = 0; content = Value.Nil; older = older; newer = newer }

abbrev pub node_at : List Node → ℕ → Node
node_at ns i = slice_index_or ns i (empty_node 0 0)

abbrev pub older_at : List Node → ℕ → ℕ
older_at ns i = (node_at ns i).older

abbrev pub newer_at : List Node → ℕ → ℕ
newer_at ns i = (node_at ns i).newer

abbrev pub version_at : List Node → ℕ → Version
version_at ns i = version (node_at ns i).stamp (view (node_at ns i).content)

-- so many versions, from a place on to older ones
abbrev pub versions_from : List Node → ℕ → ℕ → List Version
versions_from ns zero i = []
versions_from ns (suc n) i = version_at ns i ∷ versions_from ns n (older_at ns i)

-- none where there is no ring
abbrev pub ring_versions : List Node → Option Ring → List Version
ring_versions ns None = []
ring_versions ns (Some ring) = versions_from ns ring.count ring.newest

-- each of so many places, from one on to older ones, has a node
abbrev pub IsChainWithin : List Node → ℕ → ℕ → Type 0
IsChainWithin ns zero i = Unit {0}
IsChainWithin ns (suc n) i = (i < length ns) × IsChainWithin ns n (older_at ns i)

-- the nodes, the first that is free, and how many are
pub record Space : Type 0 where
  pub nodes : List Node
  pub first : ℕ
  pub free : ℕ

-- where the next node will stand
abbrev pub vacant_at : ℕ → Space → ℕ
vacant_at zero s = length s.nodes
vacant_at (suc k) s = s.first

abbrev pub vacant : Space → ℕ
vacant s = vacant_at s.free s

-- a node is put there
abbrev pub filled_at : ℕ → Space → Node → Space
filled_at zero s node = record s { nodes = s.nodes ++ node ∷ []; free = 0 }
filled_at (suc k) s node = record {
  nodes = slice_set s.nodes s.first node;
  first = older_at s.nodes s.first;
  free = k;
}

abbrev pub filled : Space → Node → Space
filled s node = filled_at s.free s node

abbrev pub with_newer : ℕ → ℕ → List Node → List Node
with_newer i newer ns = slice_set ns i (record (node_at ns i) { newer = newer })

abbrev pub with_older : ℕ → ℕ → List Node → List Node
with_older i older ns = slice_set ns i (record (node_at ns i) { older = older })

-- the newest and the oldest of a ring link to a node between them
abbrev pub linked : ℕ → ℕ → ℕ → Space → Space
linked i newest oldest s =
    record s { nodes = with_older oldest i (with_newer newest i s.nodes) }

-- a node is put before the newest of a ring
abbrev pub with_newest : ℕ → ℕ → Value → Space → Space
with_newest newest stamp content s =
    let oldest = newer_at s.nodes newest in
    linked (vacant s) newest oldest
    (filled s (record { stamp = stamp; content = content; older = newest; newer = oldest }))

abbrev pub new_content : ℕ → ℕ → Value → List Node → List Node
new_content i stamp content ns =
    slice_set ns i (record (node_at ns i) { stamp = stamp; content = content })

abbrev pub with_content : ℕ → ℕ → Value → Space → Space
with_content i stamp content s = record s { nodes = new_content i stamp content s.nodes }

-- a node is emptied, and the next to be taken
abbrev pub emptied : ℕ → Space → Space
emptied i s = record {
  nodes = slice_set s.nodes i (empty_node s.first i);
  first = i;
  free = s.free + 1;
}

-- so many are, from a place on to older ones
abbrev pub all_emptied : ℕ → ℕ → Space → Space
all_emptied zero i s = s
all_emptied (suc n) i s = all_emptied n (older_at s.nodes i) (emptied i s)

-- they can be
abbrev pub CanEmpty : ℕ → ℕ → Space → Type 0
CanEmpty zero i s = Unit {0}
CanEmpty (suc n) i s = (i < length s.nodes) × (s.free < length s.nodes)
    × CanEmpty n (older_at s.nodes i) (emptied i s)
