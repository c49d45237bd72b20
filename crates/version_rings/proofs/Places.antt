-- Nodes of a list, and one step from a node to the older one.
use Rattle.std.proofs.Common.{◌≡◌, ◌<◌, ◌-◌, ◌+◌, ℕ, suc, List, length, sym, ap}
use Rattle.std.proofs.Common.{◌∙◌, subst, arith, cond, leb, Bool, Some}
use Rattle.std.proofs.lemmas.Bool.{lt-leb}
use Rattle.value_data.specs.Inside.View.{view}
use Rattle.version_rings.specs.Versions.{at_point}
use Rattle.version_rings.specs.Inside.Nodes.{node_at, older_at, Space}
use Rattle.version_rings.specs.Inside.Nodes.{versions_from, IsChainWithin, CanEmpty, all_emptied}
use Rattle.version_rings.specs.Inside.Nodes.{emptied}
use Rattle.version_rings.specs.declared.node.Node.{Node}

-- what is left of n after k steps
pub one-less : (n k : ℕ) → k < n → n - k ≡ suc (n - (k + 1))
one-less n k h = omega arith

pub within-left : (ns : List Node) (n k i older : ℕ) → k < n → IsChainWithin ns (n - k) i
    → older ≡ older_at ns i → IsChainWithin ns (n - (k + 1)) older
within-left ns n k i older h w e =
    let here : IsChainWithin ns (suc (n - (k + 1))) i = subst (λ m. IsChainWithin ns m i) (one-less n k h) w
    in
    subst (λ (o : ℕ). IsChainWithin ns (n - (k + 1)) o) (sym e) here.1

-- a version that is too young is passed
pub read-left : (ns : List Node) (n k i older point stamp : ℕ) → k < n → older ≡ older_at ns i
    → stamp ≡ (node_at ns i).stamp → point < stamp
    → at_point point (versions_from ns (n - (k + 1)) older)
    ≡ at_point point (versions_from ns (n - k) i)
read-left ns n k i older point stamp h e is young =
    let rest = at_point point (versions_from ns (n - (k + 1)) (older_at ns i)) in
    ap (λ (o : ℕ). at_point point (versions_from ns (n - (k + 1)) o)) e
    ∙ sym (ap (λ (m : ℕ). at_point point (versions_from ns m i)) (one-less n k h)
    ∙ ap (λ (s : ℕ). cond (leb s point) (Some (view (node_at ns i).content)) rest) (sym is)
    ∙ ap (λ (b : Bool). cond b (Some (view (node_at ns i).content)) rest)
    (lt-leb stamp point young))

-- the next node is one that can be freed
pub empty-here : (s : Space) (n k i : ℕ) → k < n → CanEmpty (n - k) i s
    → (i < length s.nodes) × (s.free < length s.nodes)
empty-here s n k i h can =
    let here : CanEmpty (suc (n - (k + 1))) i s = subst (λ m. CanEmpty m i s) (one-less n k h) can
    in
    (here.0, here.1)

pub empty-left : (s : Space) (n k i older : ℕ) → k < n → CanEmpty (n - k) i s
    → older ≡ older_at s.nodes i → CanEmpty (n - (k + 1)) older (emptied i s)
empty-left s n k i older h can e =
    let here : CanEmpty (suc (n - (k + 1))) i s = subst (λ m. CanEmpty m i s) (one-less n k h) can
    in
    subst (λ (o : ℕ). CanEmpty (n - (k + 1)) o (emptied i s)) (sym e) here.2

pub emptied-left : (s : Space) (n k i older : ℕ) → k < n → older ≡ older_at s.nodes i
    → all_emptied (n - (k + 1)) older (emptied i s) ≡ all_emptied (n - k) i s
emptied-left s n k i older h e =
    ap (λ (o : ℕ). all_emptied (n - (k + 1)) o (emptied i s)) e
    ∙ sym (ap (λ (m : ℕ). all_emptied m i s) (one-less n k h))
