-- What one write to the nodes, or to the table of their owners, leaves as it was.
use Rattle.std.proofs.Common.{◌≡◌, ◌≢◌, ◌<◌, ℕ, List, [], ◌∷◌, ◌++◌, length, refl, sym, ap, ◌∙◌}
use Rattle.std.proofs.Common.{cond, eqb, inl, inr, eq-eqb}
use Rattle.std.proofs.lemmas.Bool.{cases_eq, ne_eqb}
use Rattle.std.proofs.lemmas.List.{get_or-set_same, get_or-set_other, get_or_push}
use Rattle.std.proofs.lemmas.List.{get_or_append_left}
use Rattle.version_rings.specs.Inside.Nodes.{empty_node, node_at}
use Rattle.std.specs.Prelude.{slice_set}
use Rattle.version_rings.specs.Inside.Sound.{Marks}
use Rattle.version_rings.specs.declared.node.Node.{Node}

pub set-here : (ns : List Node) (i : ℕ) (node : Node) → i < length ns
    → node_at (slice_set ns i node) i ≡ node
set-here ns i node h = get_or-set_same ns i node (empty_node 0 0) h

pub set-other : (ns : List Node) (i j : ℕ) (node : Node) → j ≢ i
    → node_at (slice_set ns i node) j ≡ node_at ns j
set-other ns i j node differ = get_or-set_other ns i j node (empty_node 0 0) differ

pub push-here : (ns : List Node) (node : Node) → node_at (ns ++ node ∷ []) (length ns) ≡ node
push-here ns node = get_or_push ns node (empty_node 0 0) (length ns) refl

pub push-other : (ns : List Node) (i : ℕ) (node : Node) → i < length ns
    → node_at (ns ++ node ∷ []) i ≡ node_at ns i
push-other ns i node h = get_or_append_left ns (node ∷ []) (empty_node 0 0) i h

-- what a write of one field leaves, at the node itself too
pub field-kept : {X : Type 0} (f : Node → X) (ns : List Node) (i j : ℕ) (node : Node)
    → i < length ns → f node ≡ f (node_at ns i)
    → f (node_at (slice_set ns i node) j) ≡ f (node_at ns j)
field-kept f ns i j node h same = elim (cases_eq j i) [
  | inl e ↦ ap (λ (k : ℕ). f (node_at (slice_set ns i node) k)) e ∙ ap f (set-here ns i node h)
      ∙ same
      ∙ sym (ap (λ (k : ℕ). f (node_at ns k)) e)
  | inr differ ↦ ap f (set-other ns i j node differ)
]

-- the table with another owner of one place, from another time on
abbrev pub marked : Marks → ℕ → ℕ → ℕ → Marks
marked m p w t = record {
  owner = λ i. cond (eqb i p) w (m.owner i);
  time = λ i. cond (eqb i p) t (m.time i);
}

pub owner-here : (m : Marks) (p w t : ℕ) → (marked m p w t).owner p ≡ w
owner-here m p w t = ap (λ b. cond b w (m.owner p)) (eq-eqb p p refl)

pub time-here : (m : Marks) (p w t : ℕ) → (marked m p w t).time p ≡ t
time-here m p w t = ap (λ b. cond b t (m.time p)) (eq-eqb p p refl)

pub owner-other : (m : Marks) (p w t i : ℕ) → i ≢ p → (marked m p w t).owner i ≡ m.owner i
owner-other m p w t i differ = ap (λ b. cond b w (m.owner i)) (ne_eqb i p differ)

pub time-other : (m : Marks) (p w t i : ℕ) → i ≢ p → (marked m p w t).time i ≡ m.time i
time-other m p w t i differ = ap (λ b. cond b t (m.time i)) (ne_eqb i p differ)
