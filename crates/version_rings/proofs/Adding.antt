-- A ring grows, or there is one more.
use Rattle.std.proofs.Common.{◌≡◌, ◌≢◌, ◌<◌, ◌≤◌, ◌+◌, ◌-◌, ℕ, zero, suc, List, [], ◌∷◌, length}
use Rattle.std.proofs.Common.{Option, None, Some, refl, sym, ap, ◌∙◌, subst, arith, length-append}
use Rattle.std.proofs.lemmas.List.{length-set}
use Rattle.std.proofs.lemmas.Bool.{ne_eqb}
use Rattle.std.specs.Prelude.{Bool, true, if◌then◌else◌, ◌==◌}
use Rattle.value_data.specs.declared.value.Value.{Value}
use Rattle.value_data.specs.Inside.View.{view}
use Rattle.version_rings.specs.Versions.{version, pushed}
use Rattle.version_rings.specs.Inside.Nodes.{Space, node_at, older_at, newer_at, versions_from}
use Rattle.version_rings.specs.Inside.Nodes.{ring_versions, vacant, filled, filled_at}
use Rattle.version_rings.specs.Inside.Nodes.{with_newest, with_newer}
use Rattle.version_rings.specs.Inside.Sound.{Marks, Path, Circle, IsSound, IsLinked, IsEmptied}
use Rattle.version_rings.specs.Inside.Sound.{step_older, nodes_in}
use Rattle.version_rings.specs.declared.node.Node.{Node}
use Rattle.version_rings.specs.declared.node.Ring.{Ring}
use Rattle.version_rings.proofs.Writes.{marked, owner-here, time-here, owner-other, time-other}
use Rattle.version_rings.proofs.Paths.{And, path-kept, restart, last-of}
use Rattle.version_rings.proofs.Totals.{ring_at}
use Rattle.version_rings.proofs.Becoming.{keeps-same, linked-same, Becomes, Changes}
use Rattle.version_rings.proofs.Becoming.{becomes, some-same}
use Rattle.version_rings.proofs.Filling.{Fills, fills}
use Rattle.version_rings.proofs.Growing.{Grown, grown, grown-path, grown-step, grown-versions}

-- what it does to the number of nodes
pub takes-at : (k : ℕ) (s : Space) (node : Node)
    → (length (filled_at k s node).nodes ≡ (if k == 0 then length s.nodes + 1 else length s.nodes))
    × ((filled_at k s node).free ≡ k - 1)
takes-at zero s node = (length-append s.nodes (node ∷ []), refl)
takes-at (suc k) s node = (
  length-set s.nodes s.first node
      ∙ sym (ap (λ (b : Bool). if b then length s.nodes + 1 else length s.nodes)
      (ne_eqb (suc k) 0 (λ e. cc))),
  omega arith,
)

-- the nodes that are still free are so afterwards
pub chain-kept : (s t : Space) (p : ℕ) (m n : Marks) (now : ℕ) → length s.nodes ≤ length t.nodes
    → ((i : ℕ) → i < length s.nodes → m.owner i ≡ 0 → i ≢ p
    → (node_at t.nodes i ≡ node_at s.nodes i) × (n.owner i ≡ m.owner i) × (n.time i ≡ m.time i))
    → Path (And (IsEmptied s.nodes) (λ i. i ≢ p)) s.nodes m 0 t.free t.first now 0
    → Path (IsEmptied t.nodes) t.nodes n 0 t.free t.first (suc now) t.first
chain-kept s t p m n now longer same rest =
    restart (IsEmptied t.nodes) t.nodes n 0 t.free t.first now 0 (suc now) t.first (omega arith)
    (λ h. h)
    (path-kept (And (IsEmptied s.nodes) (λ i. i ≢ p)) (IsEmptied t.nodes) s.nodes t.nodes m n 0
    now
    (λ i from within owner time here.
    let kept = same i within owner here.1 in
    record {
      within = omega arith;
      owner = kept.1 ∙ owner;
      time = kept.2;
      here = ap (λ (x : Node). x.content) kept.0 ∙ here.0;
      older = ap (λ (x : Node). x.older) kept.0;
      version = ap (λ (x : Node). version x.stamp (view x.content)) kept.0;
    })
    t.free t.first now 0 (omega arith) rest)

-- A ring with one version

module _ (s : Space) (rings later : List (Option Ring)) (id stamp : ℕ) (content : Value)
    (was : IsSound s rings) (there : ring_at rings id ≡ None)
    (now-there : ring_at later id ≡ Some (record { newest = vacant s; count = 1 }))
    (same : (k : ℕ) → k ≢ id → ring_at later k ≡ ring_at rings k) where
  abbrev lone : Node
  lone = record { stamp = stamp; content = content; older = vacant s; newer = vacant s }

  abbrev lone-marks : Marks
  lone-marks = marked was.marks (vacant s) (suc id) was.now

  lone-fills : Fills s (filled s lone) s.free (vacant s) lone was.marks was.now
  lone-fills = fills s lone was.marks was.now was.chain

  lone-same : (i : ℕ) → i < length s.nodes → i ≢ vacant s
      → (node_at (filled s lone).nodes i ≡ node_at s.nodes i)
      × (lone-marks.owner i ≡ was.marks.owner i) × (lone-marks.time i ≡ was.marks.time i)
  lone-same i within differ = (
    lone-fills.others i within differ,
    owner-other was.marks (vacant s) (suc id) was.now i differ,
    time-other was.marks (vacant s) (suc id) was.now i differ,
  )

  lone-changes : Changes s (filled s lone) rings later id was
  lone-changes = record {
    marks = lone-marks;
    now = suc was.now;
    passed = omega arith;
    keeps = λ k differ.
        keeps-same (IsLinked s.nodes) (IsLinked (filled s lone).nodes) s.nodes
        (filled s lone).nodes was.marks lone-marks (suc k) was.now lone-fills.longer
        (λ i within owner time. lone-same i within (lone-fills.apart k i within owner))
        (linked-same s.nodes (filled s lone).nodes);
    chain = chain-kept s (filled s lone) (vacant s) was.marks lone-marks was.now lone-fills.longer
        (λ i within owner differ. lone-same i within differ) lone-fills.rest;
    circle = λ found e.
        subst (λ (r : Ring). Circle (filled s lone).nodes lone-marks (suc id) (suc was.now) r)
        (some-same (record { newest = vacant s; count = 1 }) found (sym now-there ∙ e))
        (record {
          behind = 0;
          many = refl;
          path = (
            lone-fills.within,
            owner-here was.marks (vacant s) (suc id) was.now,
            subst (λ (x : ℕ). x < suc was.now)
                (sym (time-here was.marks (vacant s) (suc id) was.now)) (omega arith),
            ap (λ (x : Node). x.newer) lone-fills.here,
            tt,
          );
          closed = ap (λ (x : Node). x.older) lone-fills.here;
        });
    same = same;
    counted =
        omega (arith, lone-fills.counted, ap nodes_in there, ap nodes_in now-there);
  }

  pub ring-made : Becomes s (filled s lone) rings later id (version stamp (view content) ∷ [])
  ring-made =
      becomes s (filled s lone) rings later id (version stamp (view content) ∷ []) was lone-changes
      (ap (ring_versions (filled s lone).nodes) now-there
      ∙ ap (λ (x : Node). version x.stamp (view x.content) ∷ []) lone-fills.here)

-- A ring with one version more

module _ (s : Space) (rings later : List (Option Ring)) (id stamp : ℕ) (content : Value)
    (ring : Ring) (was : IsSound s rings) (there : ring_at rings id ≡ Some ring)
    (now-there : ring_at later id ≡ Some (record { newest = vacant s; count = ring.count + 1 }))
    (same : (k : ℕ) → k ≢ id → ring_at later k ≡ ring_at rings k) where
  abbrev circle-now : Circle s.nodes was.marks (suc id) was.now ring
  circle-now = was.circles id ring there

  abbrev oldest : ℕ
  oldest = newer_at s.nodes ring.newest

  abbrev first : Node
  first = record { stamp = stamp; content = content; older = ring.newest; newer = oldest }

  abbrev after : Space
  after = with_newest ring.newest stamp content s

  abbrev grown-marks : Marks
  grown-marks = marked was.marks (vacant s) (suc id) was.now

  filling : Fills s (filled s first) s.free (vacant s) first was.marks was.now
  filling = fills s first was.marks was.now was.chain

  is-last : step_older s.nodes circle-now.behind ring.newest ≡ oldest
  is-last = sym circle-now.path.3

  path-now : Path (IsLinked s.nodes) s.nodes was.marks (suc id) (suc circle-now.behind) ring.newest
      was.now oldest
  path-now = subst (λ (x : ℕ). Path (IsLinked s.nodes) s.nodes was.marks (suc id)
      (suc circle-now.behind) ring.newest was.now x) is-last circle-now.path

  oldest-in : (oldest < length s.nodes) × (was.marks.owner oldest ≡ suc id)
  oldest-in =
      let last = last-of (IsLinked s.nodes) s.nodes was.marks (suc id) circle-now.behind
      ring.newest was.now oldest path-now in (
        subst (λ (x : ℕ). x < length s.nodes) is-last last.within,
        ap was.marks.owner (sym is-last) ∙ last.owner,
      )

  growth : Grown s.nodes after.nodes (vacant s) ring.newest oldest (version stamp (view content))
  growth =
      grown s.nodes (filled s first).nodes (vacant s) ring.newest oldest stamp content
      filling.within filling.longer circle-now.path.0 oldest-in.0
      (filling.apart id ring.newest circle-now.path.0 circle-now.path.1)
      (filling.apart id oldest oldest-in.0 oldest-in.1) filling.here filling.others

  grown-same : (w i : ℕ) → w ≢ suc id → i < length s.nodes → was.marks.owner i ≡ w
      → i ≢ vacant s
      → (node_at after.nodes i ≡ node_at s.nodes i)
      × (grown-marks.owner i ≡ was.marks.owner i) × (grown-marks.time i ≡ was.marks.time i)
  grown-same w i differ within owner apart = (
    growth.others i within apart
        (λ e. differ (sym owner ∙ ap was.marks.owner e ∙ circle-now.path.1))
        (λ e. differ (sym owner ∙ ap was.marks.owner e ∙ oldest-in.1)),
    owner-other was.marks (vacant s) (suc id) was.now i apart,
    time-other was.marks (vacant s) (suc id) was.now i apart,
  )

  -- so many nodes, whatever links between them
  as-many : length after.nodes ≡ length (filled s first).nodes
  as-many =
      let mid = (filled s first).nodes in
      let two = with_newer ring.newest (vacant s) mid in
      length-set two oldest (record (node_at two oldest) { older = vacant s })
      ∙ length-set mid ring.newest (record (node_at mid ring.newest) { newer = vacant s })

  apart-id : (i : ℕ) → i < length s.nodes → was.marks.owner i ≡ suc id → i ≢ vacant s
  apart-id i within owner = filling.apart id i within owner

  grown-changes : Changes s after rings later id was
  grown-changes = record {
    marks = grown-marks;
    now = suc was.now;
    passed = omega arith;
    keeps = λ k differ.
        keeps-same (IsLinked s.nodes) (IsLinked after.nodes) s.nodes after.nodes was.marks
        grown-marks (suc k) was.now growth.longer
        (λ i within owner time. grown-same (suc k) i (λ e. differ cc) within owner
        (filling.apart k i within owner))
        (linked-same s.nodes after.nodes);
    chain = chain-kept s after (vacant s) was.marks grown-marks was.now growth.longer
        (λ i within owner differ. grown-same 0 i (λ e. cc) within owner differ) filling.rest;
    circle = λ found e.
        subst (λ (r : Ring). Circle after.nodes grown-marks (suc id) (suc was.now) r)
        (some-same (record { newest = vacant s; count = ring.count + 1 }) found
        (sym now-there ∙ e))
        (record {
          behind = suc circle-now.behind;
          many = omega (arith, circle-now.many);
          path = grown-path s.nodes after.nodes was.marks (suc id) was.now ring.newest oldest
              (vacant s) (version stamp (view content)) growth apart-id circle-now.behind path-now
              is-last;
          closed =
              ap (older_at after.nodes)
              (grown-step s.nodes after.nodes was.marks (suc id) was.now ring.newest oldest
              (vacant s) (version stamp (view content)) growth apart-id circle-now.behind path-now
              is-last)
              ∙ growth.older_oldest;
        });
    same = same;
    counted =
        omega (arith, filling.counted, as-many, ap nodes_in there, ap nodes_in now-there);
  }

  pub ring-grown : Becomes s after rings later id
      (pushed true (version stamp (view content)) (ring_versions s.nodes (Some ring)))
  ring-grown =
      let v = version stamp (view content) in
      let behind = circle-now.behind in
      let two-more : ring.count + 1 ≡ suc (suc behind) = omega (arith, circle-now.many) in
      becomes s after rings later id (pushed true v (ring_versions s.nodes (Some ring))) was
      grown-changes
      (ap (ring_versions after.nodes) now-there
      ∙ ap (λ (n : ℕ). versions_from after.nodes n (vacant s)) two-more
      ∙ grown-versions s.nodes after.nodes was.marks (suc id) was.now ring.newest oldest
      (vacant s) v growth apart-id behind path-now is-last
      ∙ ap (λ (n : ℕ). pushed true v (versions_from s.nodes n ring.newest))
      (sym circle-now.many))
