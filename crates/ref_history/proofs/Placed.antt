-- One place of many is changed.
use Rattle.std.proofs.Common.{◌≡◌, ◌≢◌, ◌↔◌, ℕ, inl, inr, sym, ap, ◌∙◌, subst}
use Rattle.std.proofs.Common.{Option, Some, None, IsSome, is_some, option_map, MatchOption}
use Rattle.std.proofs.Common.{Result, Ok, Err, OnErr}
use Rattle.std.proofs.lemmas.Bool.{cases_eq}
use Rattle.slab.specs.Slab.{Slab, get, with_value, Updates}
use Rattle.slab.proofs.SlabLemmas.{Updates-with_value}
use Rattle.ref_history.specs.Versioned.{Ref}
use Rattle.ref_history.specs.Changes.{RefsById, IsAbsent, SameRefs, SameBut, Changed}
use Rattle.ref_history.specs.Kept.{KeptStands}
use Rattle.ref_history.specs.declared.kept_ref.KeptRef.{KeptRef}
use Rattle.ref_history.specs.declared.ref_id.RefId.{RefId}
use Rattle.ref_history.proofs.Standing.{some-ref, some-same}

abbrev pub Places : Type 0
Places = Slab KeptRef

abbrev pub stands_in : Places → RefsById
stands_in places id r = (k : KeptRef) × (get places id.place ≡ Some k) × KeptStands k r

-- where something is kept, it stands for some ref
pub not-absent : (places : Places) (id : RefId) (k : KeptRef) → Some k ≡ get places id.place
    → IsAbsent (stands_in places) id → ⊥
not-absent places id k here none =
    let seen = some-ref k in
    none seen.0 (k, sym here, seen.1)

-- what stands there is what is kept there
pub stands-kept : (places : Places) (id : RefId) (k : KeptRef) (r : Ref)
    → Some k ≡ get places id.place → stands_in places id r → KeptStands k r
stands-kept places id k r here s =
    subst (λ k. KeptStands k r) (some-same s.0 k (sym s.1 ∙ sym here)) s.2

other-place : (id other : RefId) → other ≢ id → other.place ≢ id.place
other-place id other differ same = differ (ap (λ (n : ℕ). record { place = n }) same)

-- the other places are as they were
pub same-but : (old new : Places) (id : RefId)
    → ((n : ℕ) → n ≢ id.place → get new n ≡ get old n)
    → SameBut id (stands_in old) (stands_in new)
same-but old new id others other differ r =
    let kept = others other.place (other-place id other differ) in
    (λ s. (s.0, kept ∙ s.1, s.2), λ s. (s.0, sym kept ∙ s.1, s.2))

-- all places are as they were
pub same-places : (old new : Places) → ((n : ℕ) → get new n ≡ get old n)
    → SameRefs (stands_in old) (stands_in new)
same-places old new kept id r = (
  λ s. (s.0, kept id.place ∙ s.1, s.2),
  λ s. (s.0, sym (kept id.place) ∙ s.1, s.2),
)

put-there : (old : Places) (id : RefId) (k new : KeptRef) → Some k ≡ get old id.place
    → Updates old (with_value old id.place new) id.place (Some new)
put-there old id k new here = Updates-with_value old id.place new (ap is_some (sym here))

pub changed-place : (old : Places) (id : RefId) (k new : KeptRef) (f : Ref → Ref)
    → Some k ≡ get old id.place
    → ((r : Ref) → KeptStands k r → KeptStands new (f r))
    → Changed id f (stands_in old) (stands_in (with_value old id.place new))
changed-place old id k new f here becomes =
    let put = put-there old id k new here in
    record {
      changed = λ r s. (new, put.changed, becomes r (stands-kept old id k r here s));
      absent = λ none. absurd (not-absent old id k here none);
      others = same-but old (with_value old id.place new) id put.others;
    }

pub same-place : (old : Places) (id : RefId) (k new : KeptRef) → Some k ≡ get old id.place
    → ((r : Ref) → KeptStands k r ↔ KeptStands new r)
    → SameRefs (stands_in old) (stands_in (with_value old id.place new))
same-place old id k new here both other r = elim (cases_eq other.place id.place) [
  | inl same ↦ (
    λ s.
        let kept = some-same s.0 k (sym s.1 ∙ ap (get old) same ∙ sym here) in
        (new, ap (get now) same ∙ put.changed, (both r).0 (subst (λ k. KeptStands k r) kept s.2)),
    λ s.
        let kept = some-same s.0 new (sym s.1 ∙ ap (get now) same ∙ put.changed) in
        (k, ap (get old) same ∙ sym here, (both r).1 (subst (λ k. KeptStands k r) kept s.2)),
  )
  | inr differ ↦ (
    λ s. (s.0, put.others other.place differ ∙ s.1, s.2),
    λ s. (s.0, sym (put.others other.place differ) ∙ s.1, s.2),
  )
] where
  now : Places
  now = with_value old id.place new

  put : Updates old now id.place (Some new)
  put = put-there old id k new here

-- what is the same is put back
pub put-back : (old : Places) (id : RefId) (k : KeptRef) → Some k ≡ get old id.place
    → SameRefs (stands_in old) (stands_in (with_value old id.place k))
put-back old id k here = same-place old id k k here (λ r. (λ s. s, λ s. s))

-- where something was found, what holds of any that was found holds
pub on_some : {A B Q : Type 0} (P : Type 0) (f : A → B) (found : Option A)
    → IsSome (option_map f found) → Q → MatchOption found P (λ _. Q)
on_some P f (Some a) there q = q
on_some P f None there q = absurd cc

-- what holds without looking at a result holds after its failure
pub on_err : {A E P : Type 0} (result : Result A E) → P → OnErr result P
on_err (Ok a) p = tt
on_err (Err e) p = p
