-- What is kept of one ref in a ring goes on standing for it, and so does what is kept of others.
use Rattle.std.proofs.Common.{◌≡◌, ◌≢◌, ◌<◌, ◌≤◌, ◌+◌, ℕ, zero, suc, List, [], ◌∷◌, ◌++◌}
use Rattle.std.proofs.Common.{Bool, true, false, cond, Option, None, Some, map, take, length}
use Rattle.std.proofs.Common.{refl, sym, ap, ap₂, ◌∙◌, subst, arith, nat_lt, if◌then◌else◌}
use Rattle.std.proofs.Common.{inl, inr}
use Rattle.std.proofs.lemmas.List.{length-map, take_all, get_or-set_same, get_or-set_other}
use Rattle.std.proofs.lemmas.List.{take-map}
use Rattle.std.proofs.lemmas.List.{length-take-le}
use Rattle.std.proofs.lemmas.Bool.{cases_eq}
use Rattle.std.specs.Prelude.{slice_set}
use Rattle.version_rings.specs.Versions.{is_kept, pushed}
use Rattle.version_rings.specs.Versions as ring
use Rattle.std.proofs.Common.{Result, Ok, Err, IsOk, OnOk, OnErr, ◌&&◌}
use Rattle.std.specs.Result.{is_err}
use Rattle.version_rings.specs.Rings.{Rings, versions, SameOtherRings, NodesAfter}
use Rattle.version_rings.specs.declared.node.RingId.{RingId}
use Rattle.value_data.specs.Datum.{Datum}
use Rattle.std.proofs.Common.{leb, is_some, option_map}
use Rattle.ref_history.specs.Versioned.{at_point, readable}
use Rattle.ref_history.specs.Versioned.{Ref, grows, with_version, Version}
use Rattle.ref_history.specs.Changes.{IsAbsent, SameRefs, Changed}
use Rattle.ref_history.specs.Changes as change
use Rattle.ref_history.specs.Rung.{RingKept, RingRefs, ref_at, ring_ref_in, StandsIn, versions_of}
use Rattle.ref_history.specs.Rung.{version_in}
use Rattle.ref_history.specs.Rung.{ring_number, room_for, reserved_in}
use Rattle.ref_history.specs.declared.ref_id.RefId.{RefId}
use Rattle.ref_history.specs.declared.ring_ref.RingRef.{RingRef}
use Rattle.ref_history.proofs.Standing.{some-same, one-more, take-fewer, plain-faults}

-- A ref for which it stands

pub some-ref-in : (vs : List ring.Version) (k : RingRef) → is_kept vs ≡ true → (r : Ref) × RingKept
    vs k r
some-ref-in [] k kept = cc kept
some-ref-in (v ∷ vs) k kept = (
  record {
    versions = map version_in (v ∷ vs);
    kept = length vs;
    faults = if k.is_faulted then 1 else 0;
    least = k.bounds.least;
    most = k.bounds.most;
  },
  record {
    versions = sym (take_all _ _ (omega (arith, length-map (v ∷ vs) version_in)));
    many = sym (one-more (length vs));
    faults = plain-faults k.is_faulted;
    bounds = refl;
  },
)

-- what was found is there
pub found-there : (rings : Rings) (refs : RingRefs) (id : RefId) (k : RingRef)
    → Some k ≡ ring_ref_in rings refs id
    → (is_kept (versions_of rings id) ≡ true) × (ref_at refs id.place ≡ Some k)
found-there rings refs id k e = of (is_kept (versions_of rings id)) refl
  where
    of : (b : Bool) → is_kept (versions_of rings id) ≡ b
        → (is_kept (versions_of rings id) ≡ true) × (ref_at refs id.place ≡ Some k)
    of true is = (is, sym (e ∙ ap (λ b. cond b (ref_at refs id.place) None) is))
    of false is =
        let wrong : ◌≡◌ {A = Option RingRef} (Some k) None =
        e ∙ ap (λ b. cond b (ref_at refs id.place) None) is in
        cc wrong

pub not-absent-in : (rings : Rings) (refs : RingRefs) (id : RefId) (k : RingRef)
    → Some k ≡ ring_ref_in rings refs id → IsAbsent (StandsIn rings refs) id → ⊥
not-absent-in rings refs id k e none =
    let there = found-there rings refs id k e in
    let seen = some-ref-in (versions_of rings id) k there.0 in
    none seen.0 (k, there.1, seen.1)

pub stands-for : (rings : Rings) (refs : RingRefs) (id : RefId) (k : RingRef) (r : Ref)
    → Some k ≡ ring_ref_in rings refs id → StandsIn rings refs id r
    → RingKept (versions_of rings id) k r
stands-for rings refs id k r e s =
    subst (λ (k : RingRef). RingKept (versions_of rings id) k r)
    (some-same s.0 k (sym s.1 ∙ (found-there rings refs id k e).1)) s.2

-- One of many

pub other-place : (id other : RefId) → other ≢ id → other.place ≢ id.place
other-place id other differ same = differ (ap (λ (n : ℕ). record { place = n }) same)

pub same-others : (before after : Rings) (old new : RingRefs) (id : RefId)
    → ((other : RefId) → other ≢ id → versions_of after other ≡ versions_of before other)
    → ((n : ℕ) → n ≢ id.place → ref_at new n ≡ ref_at old n)
    → change.SameBut id (StandsIn before old) (StandsIn after new)
same-others before after old new id lists refs other differ r =
    let kept = refs other.place (other-place id other differ) in
    let vs = lists other differ in (
      λ s. (s.0, kept ∙ s.1, subst (λ (l : List ring.Version). RingKept l s.0 r) (sym vs) s.2),
      λ s. (s.0, sym kept ∙ s.1, subst (λ (l : List ring.Version). RingKept l s.0 r) vs s.2),
    )

pub changed-in : (before after : Rings) (old new : RingRefs) (id : RefId) (k to : RingRef)
    (f : Ref → Ref)
    → Some k ≡ ring_ref_in before old id → ref_at new id.place ≡ Some to
    → ((other : RefId) → other ≢ id → versions_of after other ≡ versions_of before other)
    → ((n : ℕ) → n ≢ id.place → ref_at new n ≡ ref_at old n)
    → ((r : Ref) → RingKept (versions_of before id) k r → RingKept (versions_of after id) to (f r))
    → Changed id f (StandsIn before old) (StandsIn after new)
changed-in before after old new id k to f found put lists refs becomes = record {
  changed = λ r s. (to, put, becomes r (stands-for before old id k r found s));
  absent = λ none. absurd (not-absent-in before old id k found none);
  others = same-others before after old new id lists refs;
}

pub same-in : (before after : Rings) (old new : RingRefs) (id : RefId) (k to : RingRef)
    → Some k ≡ ring_ref_in before old id → ref_at new id.place ≡ Some to
    → ((other : RefId) → versions_of after other ≡ versions_of before other)
    → ((n : ℕ) → n ≢ id.place → ref_at new n ≡ ref_at old n)
    → to.is_faulted ≡ k.is_faulted → to.bounds ≡ k.bounds
    → SameRefs (StandsIn before old) (StandsIn after new)
same-in before after old new id k to found put lists refs faults bounds other r = elim
    (cases_eq other.place id.place) [
      | inl same ↦ (
        λ s.
            let here = some-same s.0 k (sym s.1 ∙ ap (ref_at old) same
            ∙ (found-there before old id k found).1) in
            let was = subst (λ (k : RingRef). RingKept (versions_of before other) k r) here s.2 in
            let vs = lists other in (
              to,
              ap (ref_at new) same ∙ put,
              record {
                versions = ap (map version_in) vs ∙ was.versions;
                many = ap length vs ∙ was.many;
                faults = faults ∙ was.faults;
                bounds = bounds ∙ was.bounds;
              },
            ),
        λ s.
            let here = some-same s.0 to (sym s.1 ∙ ap (ref_at new) same ∙ put) in
            let was = subst (λ (k : RingRef). RingKept (versions_of after other) k r) here s.2 in
            let vs = lists other in (
              k,
              ap (ref_at old) same ∙ (found-there before old id k found).1,
              record {
                versions = ap (map version_in) (sym vs) ∙ was.versions;
                many = ap length (sym vs) ∙ was.many;
                faults = sym faults ∙ was.faults;
                bounds = sym bounds ∙ was.bounds;
              },
            ),
      )
      | inr differ ↦ (
        λ s. (
          s.0,
          refs other.place differ ∙ s.1,
          subst (λ (l : List ring.Version). RingKept l s.0 r) (sym (lists other)) s.2,
        ),
        λ s. (
          s.0,
          sym (refs other.place differ) ∙ s.1,
          subst (λ (l : List ring.Version). RingKept l s.0 r) (lists other) s.2,
        ),
      )
    ]

-- The list of what is kept

pub in-kept : (refs : RingRefs) (n : ℕ) (k : RingRef) → ref_at refs n ≡ Some k → n < length refs
in-kept [] n k there = absurd cc
in-kept (x ∷ xs) zero k there = omega arith
in-kept (x ∷ xs) (suc n) k there = omega (arith, in-kept xs n k there)

swapped : (a b c d e : ℕ) → a + b ≡ c + d → (e + a) + b ≡ (e + c) + d
swapped a b c d e h = omega arith

first-swapped : (x y t : ℕ) → (y + t) + x ≡ (x + t) + y
first-swapped x y t = omega arith

set-reserved : (refs : RingRefs) (n : ℕ) (to : Option RingRef) → n < length refs
    → reserved_in (slice_set refs n to) + room_for (ref_at refs n)
    ≡ reserved_in refs + room_for to
set-reserved [] n to within = absurd (omega arith)
set-reserved (x ∷ xs) zero to within =
    first-swapped (room_for x) (room_for to) (reserved_in xs)
set-reserved (x ∷ xs) (suc n) to within =
    swapped (reserved_in (slice_set xs n to)) (room_for (ref_at xs n)) (reserved_in xs)
    (room_for to) (room_for x) (set-reserved xs n to (omega (arith, within)))

pub reserved-set : (refs after : RingRefs) (n : ℕ) (to : Option RingRef) → after ≡ slice_set refs n to
    → n < length refs → reserved_in after + room_for (ref_at refs n) ≡ reserved_in refs + room_for to
reserved-set refs after n to put within =
    ap (λ (xs : RingRefs). reserved_in xs + room_for (ref_at refs n)) put ∙ set-reserved refs n to within

pub set-here : (refs after : RingRefs) (n : ℕ) (k : RingRef) (to : Option RingRef)
    → after ≡ slice_set refs n to → ref_at refs n ≡ Some k → ref_at after n ≡ to
set-here refs after n k to put there =
    ap (λ (xs : RingRefs). ref_at xs n) put
    ∙ get_or-set_same refs n to None (in-kept refs n k there)

pub set-others : (refs after : RingRefs) (n : ℕ) (to : Option RingRef) → after ≡ slice_set refs n to
    → (m : ℕ) → m ≢ n → ref_at after m ≡ ref_at refs m
set-others refs after n to put m differ =
    ap (λ (xs : RingRefs). ref_at xs m) put ∙ get_or-set_other refs n m to None differ

pub pushed-none : (refs : RingRefs) (n : ℕ) → ref_at (refs ++ None ∷ []) n ≡ ref_at refs n
pushed-none [] zero = refl
pushed-none [] (suc n) = refl
pushed-none (x ∷ xs) zero = refl
pushed-none (x ∷ xs) (suc n) = pushed-none xs n

pub reserved-none : (refs : RingRefs) → reserved_in (refs ++ None ∷ []) ≡ reserved_in refs
reserved-none [] = refl
reserved-none (x ∷ xs) = ap (λ n. room_for x + n) (reserved-none xs)

-- A version is added

pub added-in : (vs : List ring.Version) (v : ring.Version) (k to : RingRef) (r : Ref) (g : Bool)
    → is_kept vs ≡ true → g ≡ grows r → RingKept vs k r
    → to.is_faulted ≡ cond g false k.is_faulted → to.bounds ≡ k.bounds
    → RingKept (pushed g v vs) to (with_version (version_in v) r)
added-in [] v k to r g kept is s faulted bounds = cc kept
added-in (w ∷ ws) v k to r true kept is s faulted bounds = record {
  versions =
      ap (λ (xs : List Version). version_in v ∷ xs) s.versions
      ∙ sym (ap (λ n. take n (version_in v ∷ r.versions)) (one-more (r.kept + 1)))
      ∙ ap (λ b. take (cond b (r.kept + 1) r.kept + 1) (version_in v ∷ r.versions)) is;
  many =
      ap suc s.many ∙ sym (one-more (r.kept + 1)) ∙ ap (λ b. cond b (r.kept + 1) r.kept + 1) is;
  faults = faulted ∙ ap (λ b. nat_lt 0 (cond b 0 r.faults)) is;
  bounds = bounds ∙ s.bounds;
}
added-in (w ∷ ws) v k to r false kept is s faulted bounds =
    let behind : length ws ≡ r.kept = omega (arith, s.many) in
    record {
      versions =
          ap (λ (xs : List Version). version_in v ∷ xs)
          (sym (take-map version_in (length ws) (w ∷ ws)) ∙ ap₂ take behind s.versions
          ∙ ap (λ n. take r.kept (take n r.versions)) (one-more r.kept)
          ∙ take-fewer r.kept r.versions)
          ∙ sym (ap (λ n. take n (version_in v ∷ r.versions)) (one-more r.kept))
          ∙ ap (λ b. take (cond b (r.kept + 1) r.kept + 1) (version_in v ∷ r.versions)) is;
      many =
          ap suc (length-take-le (length ws) (w ∷ ws) (omega arith)) ∙ s.many
          ∙ ap (λ b. cond b (r.kept + 1) r.kept + 1) is;
      faults = faulted ∙ s.faults ∙ ap (λ b. nat_lt 0 (cond b 0 r.faults)) is;
      bounds = bounds ∙ s.bounds;
    }

-- Results

pub of-ok : {A E P : Type 0} (result : Result A E) → IsOk result → OnOk result P → P
of-ok (Ok a) ok p = p
of-ok (Err e) ok p = absurd cc

pub of-err : {A E P : Type 0} (result : Result A E) → is_err result ≡ true → OnErr result P → P
of-err (Ok a) err p = cc err
of-err (Err e) err p = p

-- The rings

pub other-ring : (other : RefId) (found : RingId) → other ≢ record { place = found.place }
    → ring_number other ≢ found
other-ring other found differ e =
    differ (ap (λ (x : RingId). let id : RefId = record { place = x.place } in id) e)

pub not-ring : (id other : RefId) (found : RingId) → found ≡ ring_number id → other ≢ id
    → ring_number other ≢ found
not-ring id other found is differ e =
    differ (ap (λ (x : RingId). let at : RefId = record { place = x.place } in at) (e ∙ is))

-- a ring that was made and released again
pub back-again : (a b d : Rings) (found : RingId) → versions a found ≡ [] → versions d found ≡ []
    → SameOtherRings found a b → SameOtherRings found b d → (other : RingId) → versions d other ≡ versions a other
back-again a b d found new gone first second other = elim (cases_eq other.place found.place) [
  | inl same ↦
      let e : other ≡ found = ap (λ (n : ℕ). let x : RingId = record { place = n } in x) same in
      ap (versions d) e ∙ gone ∙ sym new ∙ sym (ap (versions a) e)
  | inr differ ↦
      let not : other ≢ found = λ e. differ (ap (λ (x : RingId). x.place) e) in
      second other not ∙ first other not
]

pub same-all : (before after : Rings) (old new : RingRefs)
    → ((other : RefId) → versions_of after other ≡ versions_of before other)
    → ((n : ℕ) → ref_at new n ≡ ref_at old n)
    → SameRefs (StandsIn before old) (StandsIn after new)
same-all before after old new lists refs id r = (
  λ s. (
    s.0,
    refs id.place ∙ s.1,
    subst (λ (l : List ring.Version). RingKept l s.0 r) (sym (lists id)) s.2,
  ),
  λ s. (
    s.0,
    sym (refs id.place) ∙ s.1,
    subst (λ (l : List ring.Version). RingKept l s.0 r) (lists id) s.2,
  ),
)

pub all-refs : (old new : RingRefs) (n : ℕ) → ref_at new n ≡ ref_at old n
    → ((m : ℕ) → m ≢ n → ref_at new m ≡ ref_at old m) → (m : ℕ) → ref_at new m ≡ ref_at old m
all-refs old new n here others m = elim (cases_eq m n) [
  | inl same ↦ ap (ref_at new) same ∙ here ∙ sym (ap (ref_at old) same)
  | inr differ ↦ others m differ
]

-- a push takes one node at the most, and none where the oldest gives way
pub room-after : (grow kept : Bool) (old new : Rings) → NodesAfter (grow && kept) old new
    → old.room ≤ new.room + 1
room-after true true old new n = n.room
room-after true false old new n = omega (arith, n.room)
room-after false true old new n = omega (arith, n.room)
room-after false false old new n = omega (arith, n.room)

pub room-same : (grow kept : Bool) (old new : Rings) → grow ≡ false
    → NodesAfter (grow && kept) old new → new.room ≡ old.room
room-same true kept old new is n = cc is
room-same false true old new is n = n.room
room-same false false old new is n = n.room

pub some-not-absent : (rings : Rings) (refs : RingRefs) (id : RefId) (found : Option RingRef)
    → is_some found ≡ true → found ≡ ring_ref_in rings refs id → IsAbsent (StandsIn rings refs) id → ⊥
some-not-absent rings refs id None some e none = cc some
some-not-absent rings refs id (Some k) some e none = not-absent-in rings refs id k e none

-- Reading

pub read-in : (point : ℕ) (vs : List ring.Version)
    → ring.at_point point vs ≡ at_point point (map version_in vs)
read-in point [] = refl
read-in point (v ∷ vs) =
    ap (λ (rest : Option Datum). cond (leb v.stamp point) (Some v.content) rest) (read-in point vs)

pub read-kept : (vs : List ring.Version) (k : RingRef) (r : Ref) (point : ℕ) → RingKept vs k r
    → ring.at_point point vs ≡ readable point r
read-kept vs k r point s = read-in point vs ∙ ap (at_point point) s.versions

-- what is found of some versions is found again
pub found-again : {A B : Type 0} (f : A → B) (first second : Option A) (read : Option B)
    → is_some first ≡ true → option_map f first ≡ read → option_map f second ≡ read
    → is_some (option_map f second) ≡ true
found-again f None second read some one two = cc some
found-again f (Some a) second read some one two =
    ap (λ (o : Option _). is_some o) (two ∙ sym one)

pub not-found : {A B : Type 0} (f : A → B) (found : Option A) → is_some found ≡ false
    → ◌≡◌ {A = Option B} None (option_map f found)
not-found f None none = refl
not-found f (Some a) none = cc none
