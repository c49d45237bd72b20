-- A node is put where one is free, or behind all.
use Rattle.std.proofs.Common.{◌≡◌, ◌≢◌, ◌<◌, ◌≤◌, ◌+◌, ℕ, zero, suc, [], ◌∷◌, ◌++◌, length}
use Rattle.std.proofs.Common.{refl, sym, ap, ◌∙◌, arith, length-append}
use Rattle.std.specs.Prelude.{slice_set}
use Rattle.std.proofs.lemmas.List.{length-set}
use Rattle.version_rings.specs.Inside.Nodes.{Space, node_at, older_at, vacant, vacant_at, filled}
use Rattle.version_rings.specs.Inside.Nodes.{filled_at}
use Rattle.version_rings.specs.Inside.Sound.{Marks, Path, IsEmptied}
use Rattle.version_rings.specs.declared.node.Node.{Node}
use Rattle.version_rings.proofs.Writes.{set-here, set-other, push-here, push-other}
use Rattle.version_rings.proofs.Paths.{And, path-kept, restart}

pub record Fills (s t : Space) (k p : ℕ) (node : Node) (m : Marks) (now : ℕ) : Type 0 where
  pub within : p < length t.nodes
  pub longer : length s.nodes ≤ length t.nodes
  pub here : node_at t.nodes p ≡ node
  pub others : (i : ℕ) → i < length s.nodes → i ≢ p → node_at t.nodes i ≡ node_at s.nodes i
  -- the node was in no ring
  pub apart : (w i : ℕ) → i < length s.nodes → m.owner i ≡ suc w → i ≢ p
  pub counted : length t.nodes + k ≡ suc (length s.nodes + t.free)
  -- and is not among those that are still free
  pub rest : Path (And (IsEmptied s.nodes) (λ i. i ≢ p)) s.nodes m 0 t.free t.first now 0

pub fills-at : (k : ℕ) (s : Space) (node : Node) (m : Marks) (now : ℕ)
    → Path (IsEmptied s.nodes) s.nodes m 0 k s.first now s.first
    → Fills s (filled_at k s node) k (vacant_at k s) node m now
fills-at zero s node m now chain =
    let longer : length (s.nodes ++ node ∷ []) ≡ length s.nodes + 1 =
    length-append s.nodes (node ∷ []) in
    record {
      within = omega arith;
      longer = omega arith;
      here = push-here s.nodes node;
      others = λ i within differ. push-other s.nodes i node within;
      apart = λ w i within owner e. omega arith;
      counted = omega arith;
      rest = tt;
    }
fills-at (suc k) s node m now chain =
    let longer : length (slice_set s.nodes s.first node) ≡ length s.nodes =
    length-set s.nodes s.first node in
    let later = m.time s.first in
    record {
      within = omega (arith, longer, chain.0);
      longer = omega arith;
      here = set-here s.nodes s.first node chain.0;
      others = λ i within differ. set-other s.nodes s.first i node differ;
      apart = λ w i within owner e. cc (sym owner ∙ ap m.owner e ∙ chain.1);
      counted = omega arith;
      rest =
          restart (And (IsEmptied s.nodes) (λ i. i ≢ s.first)) s.nodes m 0 k
          (older_at s.nodes s.first) later s.first now 0 (omega (arith, chain.2)) (λ h. h)
          (path-kept (IsEmptied s.nodes) (And (IsEmptied s.nodes) (λ i. i ≢ s.first)) s.nodes
          s.nodes m m 0 later
          (λ i from within owner earlier here. record {
            within = within;
            owner = owner;
            time = refl;
            here = (here, λ e. omega (arith, earlier, ap m.time e));
            older = refl;
            version = refl;
          })
          k (older_at s.nodes s.first) later s.first (omega arith) chain.4);
    }

pub fills : (s : Space) (node : Node) (m : Marks) (now : ℕ)
    → Path (IsEmptied s.nodes) s.nodes m 0 s.free s.first now s.first
    → Fills s (filled s node) s.free (vacant s) node m now
fills s node m now chain = fills-at s.free s node m now chain
