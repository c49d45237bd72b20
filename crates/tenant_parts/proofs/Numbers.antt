-- The numbers that are told of a ref's history.
use Rattle.std.proofs.Common.{◌≡◌, ◌<◌, ◌^◌, ℕ, Option, None, Some, refl, sym, ap, ◌∙◌, subst}
use Rattle.std.specs.Prelude.{option_map}
use Rattle.repl_asks.specs.Transactions.{RefNameData}
use Rattle.repl_asks.specs.Exchange.{AnswerData}
use Rattle.ref_history.specs.Versioned.{Ref}
use Rattle.ref_table.specs.Store.{Store, ref_named, changed_of}
use Rattle.ref_table.specs.Performed.{as_was}
use Rattle.value_data.specs.Datum.{OwnerData, shared, tenant}
use Rattle.ref_history.specs.Versioned.{with_least, with_most}
use Rattle.ref_table.specs.Calls.{performed, number_told, performed_bound_set, sets_least, sets_most}
use Rattle.ref_history.specs.Effects.{bounds_of}
use Rattle.ref_history.specs.declared.ref_id.Bounds.{Bounds}
use Rattle.ref_table.specs.Refs.{TableRefs, store_of}
use Rattle.tenant_parts.specs.Bounds.{least_call, most_call}
use Rattle.tenant_parts.specs.Serving.{RingRefTable, ServesWithAttempts, PerformsCall}
use Rattle.tenant_parts.specs.declared.attempts.Attempts.{Attempts}
use Rattle.tenant_parts.proofs.Calls.{none-some}
use Rattle.tenant_parts.proofs.Serving.{seen-so, comes-told}
use Rattle.tenant_parts.proofs.Soundness.{reaches-sound, ref_named-sound}

-- one number of a ref that is there
module _ (part : Ref → ℕ) (of : Bounds → ℕ) (is : (r : Ref) → of (bounds_of r) ≡ part r) where
  number-comes : (table : RingRefTable) (attempts : Attempts) (s : Store) (r : TableRefs) (name : RefNameData)
      (b : Bounds) (given : AnswerData) → ServesWithAttempts table attempts s r
      → ((ref : Ref) → ref_named name s ≡ Some ref → part ref < 2 ^ 63)
      → Some b ≡ option_map bounds_of (ref_named name s)
      → (of b < 2 ^ 63 → given ≡ number_told (of b))
      → PerformsCall table attempts r (Some given)
      (as_was s (option_map (λ ref. number_told (part ref)) (ref_named name s)))
  number-comes table attempts s r name b given holds below some told =
      by (ref_named name s) refl some
    where
      by : (o : Option Ref) → ref_named name s ≡ o → Some b ≡ option_map bounds_of o
          → PerformsCall table attempts r (Some given)
          (as_was s (option_map (λ ref. number_told (part ref)) (ref_named name s)))
      by None there never = absurd (none-some (sym never))
      by (Some ref) there same =
          let equal : b ≡ bounds_of ref = cc in
          let number : of b ≡ part ref = ap of equal ∙ is ref in
          let fits : of b < 2 ^ 63 = subst (λ n. n < 2 ^ 63) (sym number) (below ref there) in
          let answer : given ≡ number_told (part ref) = told fits ∙ ap number_told number in
          comes-told table attempts s r (Some given) _ holds
          (ap (λ o. as_was s (option_map (λ ref. number_told (part ref)) o)) there
          ∙ ap (λ x. as_was s (Some x)) (sym answer))

pub least-comes : (table : RingRefTable) (attempts : Attempts) (s : Store) (r : TableRefs) (name : RefNameData)
    (set : Option ℕ) (b : Bounds) (given : AnswerData) → ServesWithAttempts table attempts s r → set ≡ None
    → Some b ≡ option_map bounds_of (ref_named name (store_of attempts.tenant s.mine.points r))
    → (b.least < 2 ^ 63 → given ≡ number_told b.least)
    → PerformsCall table attempts r (Some given) (performed s (least_call name set))
least-comes table attempts s r name set b given holds none some told =
    let sound = reaches-sound s.tenant s r holds.serves.reached holds.serves.sound in
    subst (λ o. PerformsCall table attempts r (Some given) (performed s (least_call name o))) (sym none)
    (number-comes (λ ref. ref.least) (λ x. x.least) (λ ref. refl) table attempts s r name b given
    holds (λ ref there. (ref_named-sound s name ref sound there).least)
    (some ∙ ap (λ x. option_map bounds_of (ref_named name x)) (seen-so table attempts s r holds)) told)

pub most-comes : (table : RingRefTable) (attempts : Attempts) (s : Store) (r : TableRefs) (name : RefNameData)
    (set : Option ℕ) (b : Bounds) (given : AnswerData) → ServesWithAttempts table attempts s r → set ≡ None
    → Some b ≡ option_map bounds_of (ref_named name (store_of attempts.tenant s.mine.points r))
    → (b.most < 2 ^ 63 → given ≡ number_told b.most)
    → PerformsCall table attempts r (Some given) (performed s (most_call name set))
most-comes table attempts s r name set b given holds none some told =
    let sound = reaches-sound s.tenant s r holds.serves.reached holds.serves.sound in
    subst (λ o. PerformsCall table attempts r (Some given) (performed s (most_call name o))) (sym none)
    (number-comes (λ ref. ref.most) (λ x. x.most) (λ ref. refl) table attempts s r name b given
    holds (λ ref there. (ref_named-sound s name ref sound there).most)
    (some ∙ ap (λ x. option_map bounds_of (ref_named name x)) (seen-so table attempts s r holds)) told)

-- where a bound is set, no attempt is left or begun

changed-still : (o : OwnerData) (n : ℕ) (f : Ref → Ref) (s : Store)
    → (changed_of o n f s).mine.points ≡ s.mine.points
changed-still shared n f s = refl
changed-still (tenant t) n f s = refl

bound-still : (name : RefNameData) (o : OwnerData) (f : Ref → Ref) (s : Store) (r : Option Ref)
    → (performed_bound_set name o f s r).store.mine.points ≡ s.mine.points
bound-still name o f s None = refl
bound-still name shared f s (Some r) = refl
bound-still name (tenant t) f s (Some r) = changed-still name.owner name.number f s

pub least-set-still : (s : Store) (name : RefNameData) (n : ℕ)
    → (performed s (sets_least name n)).store.mine.points ≡ s.mine.points
least-set-still s name n = bound-still name name.owner (with_least n) s (ref_named name s)

pub most-set-still : (s : Store) (name : RefNameData) (n : ℕ)
    → (performed s (sets_most name n)).store.mine.points ≡ s.mine.points
most-set-still s name n = bound-still name name.owner (with_most n) s (ref_named name s)
