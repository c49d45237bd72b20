-- A ring gets one node more, before its newest.
use Rattle.std.proofs.Common.{◌≡◌, ◌≢◌, ◌<◌, ◌≤◌, ℕ, zero, suc, List, [], ◌∷◌, length}
use Rattle.std.proofs.Common.{refl, sym, ap, ap₂, ◌∙◌, subst, arith}
use Rattle.std.proofs.lemmas.List.{length-set}
use Rattle.value_data.specs.declared.value.Value.{Value}
use Rattle.value_data.specs.Inside.View.{view}
use Rattle.version_rings.specs.Versions.{Version, version}
use Rattle.version_rings.specs.Inside.Nodes.{node_at, older_at, newer_at, version_at}
use Rattle.version_rings.specs.Inside.Nodes.{versions_from, with_older, with_newer}
use Rattle.version_rings.specs.Inside.Sound.{Marks, Path, IsLinked, step_older}
use Rattle.version_rings.specs.declared.node.Node.{Node}
use Rattle.version_rings.proofs.Writes.{set-here, set-other, field-kept, marked, owner-here}
use Rattle.version_rings.proofs.Writes.{time-here, owner-other, time-other}
use Rattle.version_rings.proofs.Paths.{restart, last-of}

pub record Grown (old new : List Node) (p h o : ℕ) (v : Version) : Type 0 where
  pub within : p < length new
  pub longer : length old ≤ length new
  pub older_new : older_at new p ≡ h
  pub newer_new : newer_at new p ≡ o
  pub version_new : version_at new p ≡ v
  pub newer_newest : newer_at new h ≡ p
  pub older_oldest : older_at new o ≡ p
  pub older : (i : ℕ) → i < length old → i ≢ p → i ≢ o → older_at new i ≡ older_at old i
  pub newer : (i : ℕ) → i < length old → i ≢ p → i ≢ h → newer_at new i ≡ newer_at old i
  pub version : (i : ℕ) → i < length old → i ≢ p → version_at new i ≡ version_at old i
  pub others : (i : ℕ) → i < length old → i ≢ p → i ≢ h → i ≢ o
      → node_at new i ≡ node_at old i

-- the nodes between which it stands link to it
pub grown : (old mid : List Node) (p h o stamp : ℕ) (content : Value) → p < length mid
    → length old ≤ length mid → h < length old → o < length old → h ≢ p → o ≢ p
    → node_at mid p ≡ record { stamp = stamp; content = content; older = h; newer = o }
    → ((i : ℕ) → i < length old → i ≢ p → node_at mid i ≡ node_at old i)
    → Grown old (with_older o p (with_newer h p mid)) p h o (version stamp (view content))
grown old mid p h o stamp content within longer in-h in-o h-apart o-apart here same =
    let to-h : Node = record (node_at mid h) { newer = p } in
    let two = with_newer h p mid in
    let to-o : Node = record (node_at two o) { older = p } in
    let many : length two ≡ length mid = length-set mid h to-h in
    let many-too : length (with_older o p two) ≡ length two = length-set two o to-o in
    let h-in : h < length mid = omega arith in
    let o-in : o < length two = omega arith in
    let p-same : node_at (with_older o p two) p ≡ node_at mid p =
    set-other two o p to-o (λ e. o-apart (sym e))
    ∙ set-other mid h p to-h (λ e. h-apart (sym e)) in
    let of = λ (x : Node). version x.stamp (view x.content) in
    record {
      within = omega arith;
      longer = omega arith;
      older_new = ap (λ (x : Node). x.older) (p-same ∙ here);
      newer_new = ap (λ (x : Node). x.newer) (p-same ∙ here);
      version_new = ap of (p-same ∙ here);
      newer_newest = field-kept (λ (x : Node). x.newer) two o h to-o o-in refl
          ∙ ap (λ (x : Node). x.newer) (set-here mid h to-h h-in);
      older_oldest = ap (λ (x : Node). x.older) (set-here two o to-o o-in);
      older = λ i i-in apart differ.
          ap (λ (x : Node). x.older) (set-other two o i to-o differ)
          ∙ field-kept (λ (x : Node). x.older) mid h i to-h h-in refl
          ∙ ap (λ (x : Node). x.older) (same i i-in apart);
      newer = λ i i-in apart differ.
          field-kept (λ (x : Node). x.newer) two o i to-o o-in refl
          ∙ ap (λ (x : Node). x.newer) (set-other mid h i to-h differ ∙ same i i-in apart);
      version = λ i i-in apart.
          field-kept of two o i to-o o-in refl ∙ field-kept of mid h i to-h h-in refl
          ∙ ap of (same i i-in apart);
      others = λ i i-in apart differ-h differ-o.
          set-other two o i to-o differ-o ∙ set-other mid h i to-h differ-h ∙ same i i-in apart;
    }

-- what becomes of a part of the ring
pub record Grows (old new : List Node) (n : Marks) (w j i before from : ℕ) : Type 0 where
  pub path : Path (IsLinked new) new n w (suc j) i before from
  pub step : step_older new j i ≡ step_older old j i
  pub versions : versions_from new (suc j) i ≡ versions_from old (suc j) i

module _ (old new : List Node) (m : Marks) (w now h o p : ℕ) (v : Version)
    (g : Grown old new p h o v)
    (apart : (i : ℕ) → i < length old → m.owner i ≡ w → i ≢ p) where
  abbrev marks-after : Marks
  marks-after = marked m p w now

  pub grows-on : (j i before from up : ℕ) → Path (IsLinked old) old m w (suc j) i before from
      → step_older old j i ≡ o → before ≤ suc (m.time h) → newer_at new i ≡ up
      → Grows old new marks-after w j i before up
  grows-on zero i before from up path last le here =
      let differ = apart i path.0 path.1 in
      record {
        path = (
          omega (arith, path.0, g.longer),
          owner-other m p w now i differ ∙ path.1,
          subst (λ (x : ℕ). x < before) (sym (time-other m p w now i differ)) path.2,
          here,
          tt,
        );
        step = refl;
        versions = ap (λ (x : Version). x ∷ []) (g.version i path.0 differ);
      }
  grows-on (suc j) i before from up path last le here =
      let differ = apart i path.0 path.1 in
      let next = older_at old i in
      let ends = last-of (IsLinked old) old m w j next (m.time i) i path.4 in
      let not-o : i ≢ o = λ e. omega (arith, ends.time, ap m.time last, ap m.time e) in
      let not-h : next ≢ h = λ e. omega (arith, path.4.2, path.2, le, ap m.time e) in
      let same = g.older i path.0 differ not-o in
      let behind = grows-on j next (m.time i) i i path.4 last (omega (arith, path.2, le))
      (g.newer next path.4.0 (apart next path.4.0 path.4.1) not-h ∙ path.4.3) in
      record {
        path = (
          omega (arith, path.0, g.longer),
          owner-other m p w now i differ ∙ path.1,
          subst (λ (x : ℕ). x < before) (sym (time-other m p w now i differ)) path.2,
          here,
          subst (λ (x : ℕ). Path (IsLinked new) new marks-after w (suc j) x (marks-after.time i) i)
              (sym same)
              (subst (λ (x : ℕ). Path (IsLinked new) new marks-after w (suc j) next x i)
              (sym (time-other m p w now i differ)) behind.path),
        );
        step = ap (step_older new j) same ∙ behind.step;
        versions = ap₂ (λ (x : Version) (xs : List Version). x ∷ xs) (g.version i path.0 differ)
            (ap (versions_from new (suc j)) same ∙ behind.versions);
      }

  pub grows-whole : (k : ℕ) → Path (IsLinked old) old m w (suc k) h now o → step_older old k h ≡ o
      → Grows old new marks-after w k h (suc (m.time h)) p
  grows-whole k path last =
      grows-on k h (suc (m.time h)) o p
      (path.0, path.1, omega arith, path.3, path.4) last (omega arith) g.newer_newest

  pub grown-step : (k : ℕ) → Path (IsLinked old) old m w (suc k) h now o → step_older old k h ≡ o
      → step_older new (suc k) p ≡ o
  grown-step k path last =
      ap (step_older new k) g.older_new ∙ (grows-whole k path last).step ∙ last

  pub grown-path : (k : ℕ) → Path (IsLinked old) old m w (suc k) h now o → step_older old k h ≡ o
      → Path (IsLinked new) new marks-after w (suc (suc k)) p (suc now)
      (step_older new (suc k) p)
  grown-path k path last = (
    g.within,
    owner-here m p w now,
    subst (λ (x : ℕ). x < suc now) (sym (time-here m p w now)) (omega arith),
    g.newer_new ∙ sym (grown-step k path last),
    subst (λ (x : ℕ). Path (IsLinked new) new marks-after w (suc k) x (marks-after.time p) p)
        (sym g.older_new)
        (subst (λ (x : ℕ). Path (IsLinked new) new marks-after w (suc k) h x p)
        (sym (time-here m p w now))
        (restart (IsLinked new) new marks-after w (suc k) h (suc (m.time h)) p now p
        (omega (arith, path.2)) (λ e. e) (grows-whole k path last).path)),
  )

  pub grown-versions : (k : ℕ) → Path (IsLinked old) old m w (suc k) h now o
      → step_older old k h ≡ o
      → versions_from new (suc (suc k)) p ≡ v ∷ versions_from old (suc k) h
  grown-versions k path last =
      ap₂ (λ (x : Version) (xs : List Version). x ∷ xs) g.version_new
      (ap (versions_from new (suc k)) g.older_new ∙ (grows-whole k path last).versions)
