-- The nodes of a ring are freed, one after the other.
use Rattle.std.proofs.Common.{◌≡◌, ◌≢◌, ◌<◌, ◌+◌, ℕ, zero, suc, List, length}
use Rattle.std.proofs.Common.{Option, None, Some, refl, sym, ap, ◌∙◌, subst, arith}
use Rattle.std.proofs.lemmas.List.{length-set}
use Rattle.std.specs.Prelude.{slice_set}
use Rattle.version_rings.specs.Inside.Nodes.{Space, empty_node, node_at, older_at, ring_versions}
use Rattle.version_rings.specs.Inside.Nodes.{emptied, all_emptied, CanEmpty}
use Rattle.version_rings.specs.Inside.Sound.{Marks, Path, Circle, IsSound, IsLinked, IsEmptied}
use Rattle.version_rings.specs.Inside.Sound.{total, nodes_in, step_older}
use Rattle.version_rings.specs.declared.node.Node.{Node}
use Rattle.version_rings.specs.declared.node.Ring.{Ring}
use Rattle.version_rings.proofs.Writes.{set-here, set-other, marked, owner-here, time-here}
use Rattle.version_rings.proofs.Writes.{owner-other, time-other}
use Rattle.version_rings.proofs.Paths.{Keeps, path-kept, restart}
use Rattle.version_rings.proofs.Totals.{ring_at, total-but}
use Rattle.version_rings.proofs.Becoming.{keeps-same, linked-same, emptied-same, circle-kept}
use Rattle.version_rings.proofs.Becoming.{circle-versions}

abbrev IsAny : ℕ → ℕ → Type 0
IsAny i from = Unit {0}

-- so many nodes, from one on to older ones, are left of a ring that is no more
pub record Loose (s : Space) (rings : List (Option Ring)) (w k i : ℕ) : Type 0 where
  pub marks : Marks
  pub now : ℕ
  pub chain : Path (IsEmptied s.nodes) s.nodes marks 0 s.free s.first now s.first
  pub circles : (id : ℕ) (ring : Ring) → ring_at rings id ≡ Some ring
      → (suc id ≢ w) × Circle s.nodes marks (suc id) now ring
  pub rest : Path IsAny s.nodes marks w k i now 0
  pub counted : s.free + total rings + k ≡ length s.nodes

module _ (s : Space) (rings : List (Option Ring)) (w k i : ℕ) (not-free : w ≢ 0)
    (was : Loose s rings w (suc k) i) where
  abbrev nodes-after : List Node
  nodes-after = slice_set s.nodes i (empty_node s.first i)

  abbrev marks-after : Marks
  marks-after = marked was.marks i 0 was.now

  as-many : length nodes-after ≡ length s.nodes
  as-many = length-set s.nodes i (empty_node s.first i)

  there : node_at nodes-after i ≡ empty_node s.first i
  there = set-here s.nodes i (empty_node s.first i) was.rest.0

  same : (j : ℕ) → j ≢ i
      → (node_at nodes-after j ≡ node_at s.nodes j) × (marks-after.owner j ≡ was.marks.owner j)
      × (marks-after.time j ≡ was.marks.time j)
  same j differ = (
    set-other s.nodes i j (empty_node s.first i) differ,
    owner-other was.marks i 0 was.now j differ,
    time-other was.marks i 0 was.now j differ,
  )

  pub other-ring : (id : ℕ) → suc id ≢ w
      → Keeps (IsLinked s.nodes) (IsLinked nodes-after) s.nodes nodes-after was.marks marks-after
      (suc id) was.now
  other-ring id differ =
      keeps-same (IsLinked s.nodes) (IsLinked nodes-after) s.nodes nodes-after was.marks
      marks-after (suc id) was.now (omega (arith, as-many))
      (λ j within owner time. same j
      (λ e. differ (sym owner ∙ ap was.marks.owner e ∙ was.rest.1)))
      (linked-same s.nodes nodes-after)

  chain-behind : Path (IsEmptied nodes-after) nodes-after marks-after 0 s.free s.first was.now i
  chain-behind =
      restart (IsEmptied nodes-after) nodes-after marks-after 0 s.free s.first was.now s.first
      was.now i (omega arith) (λ h. h)
      (path-kept (IsEmptied s.nodes) (IsEmptied nodes-after) s.nodes nodes-after was.marks
      marks-after 0 was.now
      (keeps-same (IsEmptied s.nodes) (IsEmptied nodes-after) s.nodes nodes-after was.marks
      marks-after 0 was.now (omega (arith, as-many))
      (λ j within owner time. same j
      (λ e. not-free (sym (sym owner ∙ ap was.marks.owner e ∙ was.rest.1))))
      (emptied-same s.nodes nodes-after))
      s.free s.first was.now s.first (omega arith) was.chain)

  chain-after : Path (IsEmptied nodes-after) nodes-after marks-after 0 (suc s.free) i
      (suc was.now) i
  chain-after = (
    omega (arith, as-many, was.rest.0),
    owner-here was.marks i 0 was.now,
    subst (λ (x : ℕ). x < suc was.now) (sym (time-here was.marks i 0 was.now)) (omega arith),
    ap (λ (x : Node). x.content) there,
    subst (λ (x : ℕ). Path (IsEmptied nodes-after) nodes-after marks-after 0 s.free x
        (marks-after.time i) i) (sym (ap (λ (x : Node). x.older) there))
        (subst (λ (x : ℕ). Path (IsEmptied nodes-after) nodes-after marks-after 0 s.free s.first x
        i)
        (sym (time-here was.marks i 0 was.now)) chain-behind),
  )

  pub loose-next : Loose (emptied i s) rings w k (older_at s.nodes i)
  loose-next =
      let next = older_at s.nodes i in
      let earlier = was.marks.time i in
      let one-more : suc s.free ≡ s.free + 1 = omega arith in
      record {
        marks = marks-after;
        now = suc was.now;
        chain = subst (λ (x : ℕ). Path (IsEmptied nodes-after) nodes-after marks-after 0 x i
            (suc was.now) i) one-more chain-after;
        circles = λ id ring e.
            let circle = was.circles id ring e in (
              circle.0,
              circle-kept s.nodes nodes-after was.marks marks-after (suc id) was.now
                  (suc was.now) ring (other-ring id circle.0) (omega arith) circle.1,
            );
        rest =
            restart IsAny nodes-after marks-after w k next earlier i (suc was.now) 0
            (omega (arith, was.rest.2)) (λ h. h)
            (path-kept IsAny IsAny s.nodes nodes-after was.marks marks-after w earlier
            (keeps-same IsAny IsAny s.nodes nodes-after was.marks marks-after w earlier
            (omega (arith, as-many))
            (λ j within owner time. same j (λ e. omega (arith, time, ap was.marks.time e)))
            (λ j from e h. h))
            k next earlier i (omega arith) was.rest.4);
        counted = omega (arith, was.counted, as-many);
      }

pub record Freed (s t : Space) (rings : List (Option Ring)) (k i : ℕ) : Type 0 where
  pub can : CanEmpty k i s
  pub sound : IsSound t rings
  pub free : t.free ≡ s.free + k
  pub many : length t.nodes ≡ length s.nodes
  pub same : (id : ℕ)
      → ring_versions t.nodes (ring_at rings id) ≡ ring_versions s.nodes (ring_at rings id)

pub freed : (rings : List (Option Ring)) (w : ℕ) → w ≢ 0 → (k i : ℕ) (s : Space)
    → Loose s rings w k i → Freed s (all_emptied k i s) rings k i
freed rings w not-free zero i s was = record {
  can = tt;
  sound = record {
    marks = was.marks;
    now = was.now;
    chain = was.chain;
    circles = λ id ring e. (was.circles id ring e).1;
    counted = omega (arith, was.counted);
  };
  free = omega arith;
  many = refl;
  same = λ id. refl;
}
freed rings w not-free (suc k) i s was =
    let behind = freed rings w not-free k (older_at s.nodes i) (emptied i s)
    (loose-next s rings w k i not-free was) in
    record {
      can = (was.rest.0, omega (arith, was.counted), behind.can);
      sound = behind.sound;
      free = omega (arith, behind.free);
      many = behind.many ∙ length-set s.nodes i (empty_node s.first i);
      same = λ id. behind.same id ∙ kept id (ring_at rings id) refl;
    }
  where
    kept : (id : ℕ) (found : Option Ring) → ring_at rings id ≡ found
        → ring_versions (slice_set s.nodes i (empty_node s.first i)) found
        ≡ ring_versions s.nodes found
    kept id None e = refl
    kept id (Some ring) e =
        let circle = was.circles id ring e in
        circle-versions s.nodes (slice_set s.nodes i (empty_node s.first i)) was.marks
        (marked was.marks i 0 was.now) (suc id) was.now ring
        (other-ring s rings w k i not-free was id circle.0) circle.1

-- what is left of a ring that was taken from its place
pub loosened : (s : Space) (rings later : List (Option Ring)) (id : ℕ) (ring : Ring)
    (was : IsSound s rings) → ring_at rings id ≡ Some ring → ring_at later id ≡ None
    → ((k : ℕ) → k ≢ id → ring_at later k ≡ ring_at rings k)
    → Loose s later (suc id) ring.count ring.newest
loosened s rings later id ring was there gone same =
    let circle = was.circles id ring there in
    let other : (k : ℕ) (r : Ring) → ring_at later k ≡ Some r → k ≢ id = λ k r e is.
    none-some r (sym gone ∙ ap (ring_at later) (sym is) ∙ e) in
    record {
      marks = was.marks;
      now = was.now;
      chain = was.chain;
      circles = λ k r e. (
        λ is. other k r e cc,
        was.circles k r (sym (same k (other k r e)) ∙ e),
      );
      rest = subst (λ (n : ℕ). Path IsAny s.nodes was.marks (suc id) n ring.newest was.now 0)
          (sym circle.many)
          (restart IsAny s.nodes was.marks (suc id) (suc circle.behind) ring.newest was.now
          (step_older s.nodes circle.behind ring.newest)
          was.now 0 (omega arith) (λ h. h)
          (path-kept (IsLinked s.nodes) IsAny s.nodes s.nodes was.marks was.marks (suc id)
          was.now
          (keeps-same (IsLinked s.nodes) IsAny s.nodes s.nodes was.marks was.marks (suc id)
          was.now (omega arith) (λ j within owner time. (refl, refl, refl)) (λ j from e h. tt))
          (suc circle.behind) ring.newest was.now
          (step_older s.nodes circle.behind ring.newest)
          (omega arith) circle.path));
      counted =
          omega (
            arith,
            was.counted,
            total-but rings later id same,
            ap nodes_in there,
            ap nodes_in gone,
          );
    }
  where
    none-some : (r : Ring) → ◌≡◌ {A = Option Ring} None (Some r) → ⊥
    none-some r e = cc
