-- The oldest node of a ring becomes its newest. All links stay: the ring is turned by one.
use Rattle.std.proofs.Common.{◌≡◌, ◌≢◌, ◌<◌, ℕ, zero, suc, List, ◌∷◌, length, take}
use Rattle.std.proofs.Common.{Option, Some, refl, sym, ap, ap₂, ◌∙◌, subst, arith}
use Rattle.std.proofs.lemmas.List.{length-set}
use Rattle.value_data.specs.declared.value.Value.{Value}
use Rattle.value_data.specs.Inside.View.{view}
use Rattle.version_rings.specs.Versions.{Version, version, pushed}
use Rattle.std.specs.Prelude.{false}
use Rattle.version_rings.specs.Inside.Nodes.{Space, node_at, older_at, newer_at, version_at}
use Rattle.version_rings.specs.Inside.Nodes.{versions_from, ring_versions, new_content}
use Rattle.version_rings.specs.Inside.Nodes.{with_content}
use Rattle.version_rings.specs.Inside.Sound.{Marks, Path, Circle, IsSound, IsLinked, IsEmptied}
use Rattle.version_rings.specs.Inside.Sound.{step_older, nodes_in}
use Rattle.version_rings.specs.declared.node.Node.{Node}
use Rattle.version_rings.specs.declared.node.Ring.{Ring}
use Rattle.version_rings.proofs.Writes.{set-here, set-other, field-kept, marked, owner-here}
use Rattle.version_rings.proofs.Writes.{time-here, owner-other, time-other}
use Rattle.version_rings.proofs.Paths.{Keeps, And, path-kept, versions-kept, restart, last-of}
use Rattle.version_rings.proofs.Paths.{before-last, newer-last, step-last, versions-shorter}
use Rattle.version_rings.proofs.Paths.{versions-length}
use Rattle.version_rings.proofs.Totals.{ring_at}
use Rattle.version_rings.proofs.Becoming.{keeps-same, linked-same, emptied-same, Becomes, Changes}
use Rattle.version_rings.proofs.Becoming.{becomes, some-same}

-- one node has another content
pub record Turned (old new : List Node) (o : ℕ) (v : Version) : Type 0 where
  pub many : length new ≡ length old
  pub older : (i : ℕ) → older_at new i ≡ older_at old i
  pub newer : (i : ℕ) → newer_at new i ≡ newer_at old i
  pub others : (i : ℕ) → i ≢ o → node_at new i ≡ node_at old i
  pub here : version_at new o ≡ v

pub turned : (ns : List Node) (o stamp : ℕ) (content : Value) → o < length ns
    → Turned ns (new_content o stamp content ns) o (version stamp (view content))
turned ns o stamp content h =
    let node : Node = record (node_at ns o) { stamp = stamp; content = content } in
    record {
      many = length-set ns o node;
      older = λ i. field-kept (λ (x : Node). x.older) ns o i node h refl;
      newer = λ i. field-kept (λ (x : Node). x.newer) ns o i node h refl;
      others = λ i differ. set-other ns o i node differ;
      here = ap (λ (x : Node). version x.stamp (view x.content)) (set-here ns o node h);
    }

steps-same : (old new : List Node) → ((i : ℕ) → older_at new i ≡ older_at old i)
    → (k i : ℕ) → step_older new k i ≡ step_older old k i
steps-same old new same zero i = refl
steps-same old new same (suc k) i =
    ap (step_older new k) (same i) ∙ steps-same old new same k (older_at old i)

-- the oldest links to the one before it, and where it is alone to itself
newer-oldest : (ns : List Node) (m : Marks) (w k h now : ℕ)
    → Path (IsLinked ns) ns m w (suc k) h now (step_older ns k h)
    → older_at ns (step_older ns k h) ≡ h
    → newer_at ns (step_older ns k h) ≡ step_older ns k (step_older ns k h)
newer-oldest ns m w zero h now path closed = path.3
newer-oldest ns m w (suc k) h now path closed =
    newer-last ns m w k h now (step_older ns (suc k) h) path
    ∙ ap (step_older ns k) (sym closed)

-- a ring that is turned
module _ (old new : List Node) (m : Marks) (w now k h : ℕ) (v : Version)
    (path : Path (IsLinked old) old m w (suc k) h now (step_older old k h))
    (closed : older_at old (step_older old k h) ≡ h)
    (t : Turned old new (step_older old k h) v) where
  -- what holds of all but the oldest
  abbrev IsYounger : ℕ → ℕ → Type 0
  IsYounger = And (IsLinked old) (λ j. m.time (step_older old k h) < m.time j)

  abbrev after : Marks
  after = marked m (step_older old k h) w now

  differs : (i : ℕ) → m.time (step_older old k h) < m.time i → i ≢ step_older old k h
  differs i later e = omega (arith, later, ap m.time e)

  keeps : Keeps IsYounger (IsLinked new) old new m after w now
  keeps i from within owner time here =
      let differ = differs i here.1 in
      let same = t.others i differ in
      record {
        within = omega (arith, within, t.many);
        owner = owner-other m (step_older old k h) w now i differ ∙ owner;
        time = time-other m (step_older old k h) w now i differ;
        here = t.newer i ∙ here.0;
        older = t.older i;
        version = ap (λ (x : Node). version x.stamp (view x.content)) same;
      }

  younger : Path IsYounger old m w k h now (step_older old k h)
  younger = before-last (IsLinked old) old m w k h now (step_older old k h) path

  pub turned-path : Path (IsLinked new) new after w (suc k) (step_older old k h) (suc now)
      (step_older new k (step_older old k h))
  turned-path =
      let o = step_older old k h in
      let last = last-of (IsLinked old) old m w k h now o path in
      let behind = path-kept IsYounger (IsLinked new) old new m after w now keeps k h now o
      (omega arith) younger in (
        omega (arith, last.within, t.many),
        owner-here m o w now,
        subst (λ (x : ℕ). x < suc now) (sym (time-here m o w now)) (omega arith),
        t.newer o ∙ newer-oldest old m w k h now path closed
            ∙ sym (steps-same old new t.older k o),
        subst (λ (x : ℕ). Path (IsLinked new) new after w k x (after.time o) o)
            (sym (t.older o ∙ closed))
            (subst (λ (x : ℕ). Path (IsLinked new) new after w k h x o) (sym (time-here m o w now))
            behind),
      )

  pub turned-closed : older_at new (step_older new k (step_older old k h)) ≡ step_older old k h
  turned-closed =
      let o = step_older old k h in
      ap (older_at new) (steps-same old new t.older k o) ∙ t.older (step_older old k o)
      ∙ step-last old k o ∙ ap (step_older old k) closed

  pub turned-versions : versions_from new (suc k) (step_older old k h)
      ≡ v ∷ take k (versions_from old (suc k) h)
  turned-versions =
      let o = step_older old k h in
      ap₂ (λ (x : Version) (xs : List Version). x ∷ xs) t.here
      (ap (versions_from new k) (t.older o ∙ closed)
      ∙ versions-kept IsYounger (IsLinked new) old new m after w now keeps k h now o
      (omega arith) younger
      ∙ sym (versions-shorter old k h))

module _ (s : Space) (rings later : List (Option Ring)) (id stamp : ℕ) (content : Value)
    (ring : Ring) (was : IsSound s rings) (there : ring_at rings id ≡ Some ring)
    (same : (k : ℕ) → k ≢ id → ring_at later k ≡ ring_at rings k) where
  abbrev circle-now : Circle s.nodes was.marks (suc id) was.now ring
  circle-now = was.circles id ring there

  abbrev oldest : ℕ
  oldest = step_older s.nodes circle-now.behind ring.newest

  abbrev nodes-after : List Node
  nodes-after = new_content oldest stamp content s.nodes

  abbrev marks-after : Marks
  marks-after = marked was.marks oldest (suc id) was.now

  owned : was.marks.owner oldest ≡ suc id
  owned = (last-of (IsLinked s.nodes) s.nodes was.marks (suc id) circle-now.behind ring.newest
      was.now oldest circle-now.path).owner

  change : Turned s.nodes nodes-after oldest (version stamp (view content))
  change = turned s.nodes oldest stamp content
      (last-of (IsLinked s.nodes) s.nodes was.marks (suc id) circle-now.behind ring.newest
      was.now oldest circle-now.path).within

  untouched : (w : ℕ) → w ≢ suc id → (i : ℕ) → i < length s.nodes → was.marks.owner i ≡ w
      → was.marks.time i < was.now
      → (node_at nodes-after i ≡ node_at s.nodes i) × (marks-after.owner i ≡ was.marks.owner i)
      × (marks-after.time i ≡ was.marks.time i)
  untouched w differ i within owner time =
      let apart : i ≢ oldest = λ e. differ (sym owner ∙ ap was.marks.owner e ∙ owned) in (
        change.others i apart,
        owner-other was.marks oldest (suc id) was.now i apart,
        time-other was.marks oldest (suc id) was.now i apart,
      )

  chain-after : Path (IsEmptied nodes-after) nodes-after marks-after 0 s.free s.first (suc was.now)
      s.first
  chain-after =
      restart (IsEmptied nodes-after) nodes-after marks-after 0 s.free s.first was.now s.first
      (suc was.now) s.first (omega arith) (λ h. h)
      (path-kept (IsEmptied s.nodes) (IsEmptied nodes-after) s.nodes nodes-after was.marks
      marks-after 0 was.now
      (keeps-same (IsEmptied s.nodes) (IsEmptied nodes-after) s.nodes nodes-after was.marks
      marks-after 0 was.now (omega (arith, change.many)) (untouched 0 (λ e. cc))
      (emptied-same s.nodes nodes-after))
      s.free s.first was.now s.first (omega arith) was.chain)

  turned-changes : ring_at later id ≡ Some (record { newest = oldest; count = ring.count })
      → Changes s (with_content oldest stamp content s) rings later id was
  turned-changes now-there = record {
    marks = marks-after;
    now = suc was.now;
    passed = omega arith;
    keeps = λ k differ.
        keeps-same (IsLinked s.nodes) (IsLinked nodes-after) s.nodes nodes-after was.marks
        marks-after (suc k) was.now (omega (arith, change.many))
        (untouched (suc k) (λ e. differ cc)) (linked-same s.nodes nodes-after);
    chain = chain-after;
    circle = λ found e.
        subst (λ (r : Ring). Circle nodes-after marks-after (suc id) (suc was.now) r)
        (some-same (record { newest = oldest; count = ring.count }) found (sym now-there ∙ e))
        (record {
          behind = circle-now.behind;
          many = circle-now.many;
          path = turned-path s.nodes nodes-after was.marks (suc id) was.now circle-now.behind
              ring.newest (version stamp (view content)) circle-now.path circle-now.closed change;
          closed = turned-closed s.nodes nodes-after was.marks (suc id) was.now circle-now.behind
              ring.newest (version stamp (view content)) circle-now.path circle-now.closed change;
        });
    same = same;
    counted =
        omega (arith, change.many, ap nodes_in there, ap nodes_in now-there);
  }

  turned-here : ring_at later id ≡ Some (record { newest = oldest; count = ring.count })
      → ring_versions nodes-after (ring_at later id)
      ≡ pushed false (version stamp (view content)) (ring_versions s.nodes (Some ring))
  turned-here now-there =
      let behind = circle-now.behind in
      let h = ring.newest in
      let v = version stamp (view content) in
      ap (ring_versions nodes-after) now-there
      ∙ ap (λ (n : ℕ). versions_from nodes-after n oldest) circle-now.many
      ∙ turned-versions s.nodes nodes-after was.marks (suc id) was.now behind h v circle-now.path
      circle-now.closed change
      ∙ ap (λ (n : ℕ). v ∷ take n (versions_from s.nodes (suc behind) h))
      (sym (versions-length s.nodes behind (older_at s.nodes h)))
      ∙ ap (λ (n : ℕ). pushed false v (versions_from s.nodes n h)) (sym circle-now.many)

  pub overwritten : (o : ℕ) → o ≡ newer_at s.nodes ring.newest
      → ring_at later id ≡ Some (record { newest = o; count = ring.count })
      → Becomes s (with_content o stamp content s) rings later id
      (pushed false (version stamp (view content)) (ring_versions s.nodes (Some ring)))
  overwritten o is now-there =
      let vs = pushed false (version stamp (view content)) (ring_versions s.nodes (Some ring)) in
      let e : oldest ≡ o = sym (is ∙ circle-now.path.3) in
      let there-now : ring_at later id ≡ Some (record { newest = oldest; count = ring.count }) =
      now-there
      ∙ sym (ap (λ (x : ℕ). Some (record { newest = x; count = ring.count })) e) in
      subst (λ (x : ℕ). Becomes s (with_content x stamp content s) rings later id vs) e
      (becomes s (with_content oldest stamp content s) rings later id vs was
      (turned-changes there-now) (turned-here there-now))
