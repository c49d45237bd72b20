-- One ring changes, and all that holds of the nodes goes on to hold.
use Rattle.std.proofs.Common.{◌≡◌, ◌≢◌, ◌<◌, ◌≤◌, ◌+◌, ℕ, suc, List, length}
use Rattle.std.proofs.Common.{Option, None, Some, refl, sym, ap, ◌∙◌, subst, arith, inl, inr}
use Rattle.std.proofs.lemmas.Bool.{cases_eq}
use Rattle.value_data.specs.Inside.View.{view}
use Rattle.version_rings.specs.Versions.{Version, version}
use Rattle.version_rings.specs.Inside.Nodes.{Space, node_at, older_at, versions_from, ring_versions}
use Rattle.version_rings.specs.Inside.Sound.{Marks, Path, Circle, IsSound, IsLinked, IsEmptied}
use Rattle.version_rings.specs.Inside.Sound.{nodes_in, step_older}
use Rattle.version_rings.specs.declared.node.Node.{Node}
use Rattle.version_rings.specs.declared.node.Ring.{Ring}
use Rattle.version_rings.proofs.Paths.{Keeps, path-kept, step-kept, versions-kept, restart, shorter}
use Rattle.version_rings.proofs.Paths.{last-of}
use Rattle.version_rings.proofs.Totals.{ring_at, total-but}

-- where nodes of this owner are the same
pub keeps-same : (P Q : ℕ → ℕ → Type 0) (old new : List Node) (m n : Marks) (w top : ℕ)
    → length old ≤ length new
    → ((i : ℕ) → i < length old → m.owner i ≡ w → m.time i < top
    → (node_at new i ≡ node_at old i) × (n.owner i ≡ m.owner i) × (n.time i ≡ m.time i))
    → ((i from : ℕ) → node_at new i ≡ node_at old i → P i from → Q i from)
    → Keeps P Q old new m n w top
keeps-same P Q old new m n w top longer same gives i from within owner time here =
    let kept = same i within owner time in
    record {
      within = omega arith;
      owner = kept.1 ∙ owner;
      time = kept.2;
      here = gives i from kept.0 here;
      older = ap (λ (x : Node). x.older) kept.0;
      version = ap (λ (x : Node). version x.stamp (view x.content)) kept.0;
    }

pub linked-same : (old new : List Node) (i from : ℕ) → node_at new i ≡ node_at old i
    → IsLinked old i from → IsLinked new i from
linked-same old new i from e here = ap (λ (x : Node). x.newer) e ∙ here

pub emptied-same : (old new : List Node) (i from : ℕ) → node_at new i ≡ node_at old i
    → IsEmptied old i from → IsEmptied new i from
emptied-same old new i from e here = ap (λ (x : Node). x.content) e ∙ here

pub circle-kept : (old new : List Node) (m n : Marks) (w now later : ℕ) (ring : Ring)
    → Keeps (IsLinked old) (IsLinked new) old new m n w now → now ≤ later
    → Circle old m w now ring → Circle new n w later ring
circle-kept old new m n w now later ring keeps le c =
    let at = step_older old c.behind ring.newest in
    let path = path-kept (IsLinked old) (IsLinked new) old new m n w now keeps (suc c.behind)
    ring.newest now at (omega arith) c.path in
    let e = step-kept (IsLinked old) (IsLinked new) old new m n w now keeps c.behind ring.newest
    now at (omega arith)
    (shorter (IsLinked old) old m w c.behind ring.newest now at c.path) in
    let last = last-of (IsLinked old) old m w c.behind ring.newest now at c.path in
    record {
      behind = c.behind;
      many = c.many;
      path = restart (IsLinked new) new n w (suc c.behind) ring.newest now at later
          (step_older new c.behind ring.newest) le (λ h. h ∙ sym e) path;
      closed = ap (older_at new) e
          ∙ (keeps at last.from last.within last.owner last.time last.here).older ∙ c.closed;
    }

pub circle-versions : (old new : List Node) (m n : Marks) (w now : ℕ) (ring : Ring)
    → Keeps (IsLinked old) (IsLinked new) old new m n w now → Circle old m w now ring
    → versions_from new ring.count ring.newest ≡ versions_from old ring.count ring.newest
circle-versions old new m n w now ring keeps c =
    ap (λ (k : ℕ). versions_from new k ring.newest) c.many
    ∙ versions-kept (IsLinked old) (IsLinked new) old new m n w now keeps (suc c.behind)
    ring.newest now (step_older old c.behind ring.newest) (omega arith) c.path
    ∙ sym (ap (λ (k : ℕ). versions_from old k ring.newest) c.many)

-- the ring that has this id has these versions, and each other those that it had
pub record Becomes (s t : Space) (rings later : List (Option Ring)) (id : ℕ) (vs : List Version)
    : Type 0 where
  pub sound : IsSound t later
  pub here : ring_versions t.nodes (ring_at later id) ≡ vs
  pub others : (k : ℕ) → k ≢ id
      → ring_versions t.nodes (ring_at later k) ≡ ring_versions s.nodes (ring_at rings k)

-- what has to be shown of a change
pub record Changes (s t : Space) (rings later : List (Option Ring)) (id : ℕ) (was : IsSound s rings)
    : Type 0 where
  pub marks : Marks
  pub now : ℕ
  pub passed : was.now ≤ now
  pub keeps : (k : ℕ) → k ≢ id
      → Keeps (IsLinked s.nodes) (IsLinked t.nodes) s.nodes t.nodes was.marks marks (suc k) was.now
  pub chain : Path (IsEmptied t.nodes) t.nodes marks 0 t.free t.first now t.first
  pub circle : (ring : Ring) → ring_at later id ≡ Some ring
      → Circle t.nodes marks (suc id) now ring
  pub same : (k : ℕ) → k ≢ id → ring_at later k ≡ ring_at rings k
  pub counted : t.free + nodes_in (ring_at later id) + length s.nodes
      ≡ length t.nodes + s.free + nodes_in (ring_at rings id)

pub becomes : (s t : Space) (rings later : List (Option Ring)) (id : ℕ) (vs : List Version)
    (was : IsSound s rings) → Changes s t rings later id was
    → ring_versions t.nodes (ring_at later id) ≡ vs → Becomes s t rings later id vs
becomes s t rings later id vs was c here = record {
  sound = record {
    marks = c.marks;
    now = c.now;
    chain = c.chain;
    circles = circles;
    counted = omega (arith, was.counted, c.counted, total-but rings later id c.same);
  };
  here = here;
  others = λ k differ.
      ap (ring_versions t.nodes) (c.same k differ) ∙ other k differ (ring_at rings k) refl;
} where
  circles : (k : ℕ) (ring : Ring) → ring_at later k ≡ Some ring
      → Circle t.nodes c.marks (suc k) c.now ring
  circles k ring e = elim (cases_eq k id) [
    | inl same ↦ subst (λ (j : ℕ). Circle t.nodes c.marks (suc j) c.now ring) (sym same)
        (c.circle ring (ap (ring_at later) (sym same) ∙ e))
    | inr differ ↦ circle-kept s.nodes t.nodes was.marks c.marks (suc k) was.now c.now ring
        (c.keeps k differ) c.passed (was.circles k ring (sym (c.same k differ) ∙ e))
  ]

  other : (k : ℕ) → k ≢ id → (found : Option Ring) → ring_at rings k ≡ found
      → ring_versions t.nodes found ≡ ring_versions s.nodes found
  other k differ None e = refl
  other k differ (Some ring) e = circle-versions s.nodes t.nodes was.marks c.marks (suc k) was.now
      ring (c.keeps k differ) (was.circles k ring e)

pub some-same : {A : Type 0} (x y : A) → ◌≡◌ {A = Option A} (Some x) (Some y) → x ≡ y
some-same x y e = cc
