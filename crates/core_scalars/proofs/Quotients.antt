-- What fits 64 signed bits, and folding from the left.
use Rattle.std.proofs.Common.{◌≡◌, ℕ, ℤ, pos, negsuc, suc, ◌+◌, ◌<◌, ◌^◌, Bool, true, false, List}
use Rattle.std.proofs.Common.{length, drop, get_or, Option, Some, None, Result, Ok, Err, refl, sym}
use Rattle.std.proofs.Common.{ap, ◌∙◌, add-one, subst, to_z, of_z, SomeIff, FitsSigned, int_div}
use Rattle.std.proofs.Common.{nat_lt, arith}
use Rattle.std.proofs.Math.Seq.{drop-cons}
use Rattle.std.specs.Int.{w64, CanDivide, IsNonZero}
use Rattle.std.proofs.lemmas.Int.{to_z-of_z}
use Rattle.std.proofs.lemmas.Grind.{common_steps}
use Rattle.std.proofs.lemmas.Bool.Decides.{nat_tests}
use Rattle.repl_values.specs.Failure.{Failure, integer_overflow}
use Rattle.repl_values.specs.Inside.FaultView.{Fails, failure_of}
use Rattle.repl_values.specs.declared.error.ApplyError.{ApplyError}
use Rattle.repl_values.specs.declared.error.ApplyError.TheVariants as errors
use Rattle.core_scalars.specs.Arithmetic.{fits_64, or_overflow, left_fold}

fits_64-true : (n : ℤ) → FitsSigned w64 n → fits_64 n ≡ true
fits_64-true (pos n) h = grind (arith, common_steps, h.sfits)
fits_64-true (negsuc n) h = grind (arith, common_steps, h.sfits)

is_below : (n : ℕ) (b : Bool) → nat_lt n (2 ^ 63) ≡ b → b ≡ true → n < 2 ^ 63
is_below n b e h = grind (arith, nat_tests)

test_fails : (n : ℕ) (b : Bool) → nat_lt n (2 ^ 63) ≡ b → ¬ (n < 2 ^ 63) → b ≡ false
test_fails n true e h = absurd (h (is_below n true e refl))
test_fails n false e h = refl

fits_64-false : (n : ℤ) → ¬ (FitsSigned w64 n) → fits_64 n ≡ false
fits_64-false (pos n) h = test_fails n (nat_lt n (2 ^ 63)) refl (λ below. h (record { sfits = below }))
fits_64-false (negsuc n) h = test_fails n (nat_lt n (2 ^ 63)) refl (λ below. h (record { sfits = below }))

-- what fits is held
pub or_overflow-Some : (checked : Option ℤ) (n m : ℤ) → checked ≡ Some m → SomeIff checked (FitsSigned w64 n) n → or_overflow n ≡ Ok (to_z w64 (of_z w64 m))
unfolding or_overflow
or_overflow-Some checked n m e h =
    let fact : (FitsSigned w64 n) × (m ≡ n) = subst (λ (o : Option ℤ). SomeIff o (FitsSigned w64 n) n) e h in
    let same : n ≡ to_z w64 (of_z w64 m) = sym (ap (λ (x : ℤ). to_z w64 (of_z w64 x)) fact.1 ∙ to_z-of_z w64 n fact.0) in
    rw (fits_64-true n fact.0) (ap Ok same)

-- what does not fit overflows
pub or_overflow-None : (checked : Option ℤ) (n : ℤ) → checked ≡ None → SomeIff checked (FitsSigned w64 n) n → or_overflow n ≡ Err integer_overflow
unfolding or_overflow
or_overflow-None checked n e h =
    let fact : ¬ (FitsSigned w64 n) = subst (λ (o : Option ℤ). SomeIff o (FitsSigned w64 n) n) e h in
    rw (fits_64-false n fact) refl

-- a quotient that can be had is one that fits, but by zero
pub can_divide : (r : Option ℤ) (a b : ℤ) → IsNonZero w64 b → SomeIff r (CanDivide w64 a b) (int_div a b) → SomeIff r (FitsSigned w64 (int_div a b)) (int_div a b)
can_divide (Some x) a b nonzero h = (h.0.1, h.1)
can_divide None a b nonzero h = λ fits. h (nonzero, fits)

-- the same, where the code spells both by their bits
pub can_divide_bits : (r : Option ℤ) (a b : ℤ) → FitsSigned w64 a → FitsSigned w64 b → IsNonZero w64 b
    → SomeIff r (CanDivide w64 (to_z w64 (of_z w64 a)) (to_z w64 (of_z w64 b))) (int_div (to_z w64 (of_z w64 a)) (to_z w64 (of_z w64 b))) → SomeIff r (FitsSigned w64 (int_div a b)) (int_div a b)
can_divide_bits r a b fits_a fits_b nonzero h =
    let one = subst (λ (x : ℤ). SomeIff r (CanDivide w64 x (to_z w64 (of_z w64 b))) (int_div x (to_z w64 (of_z w64 b)))) (to_z-of_z w64 a fits_a) h in
    can_divide r a b nonzero (subst (λ (x : ℤ). SomeIff r (CanDivide w64 a x) (int_div a x)) (to_z-of_z w64 b fits_b) one)

-- one more is folded in
fold_step : (f : ℤ → ℤ → Result ℤ Failure) (total next : ℤ) (ns : List ℤ) (i : ℕ) (d : ℤ) (r : Result ℤ Failure) → i < length ns → f total (get_or ns i d) ≡ Ok next
    → left_fold f total (drop i ns) ≡ r → left_fold f next (drop (i + 1) ns) ≡ r
fold_step f total next ns i d r below step so_far =
    let one : left_fold f total (drop i ns) ≡ left_fold f next (drop (suc i) ns) = rw (drop-cons ns i d below, step) refl in
    rw (add-one i) (sym one ∙ so_far)

-- the same, where the code spells two of the integers by their bits
pub fold_next : (f : ℤ → ℤ → Result ℤ Failure) (total next spelled n : ℤ) (ns : List ℤ) (i : ℕ) (d : ℤ) (r : Result ℤ Failure) → i < length ns → n ≡ get_or ns i d → spelled ≡ next
    → f total n ≡ Ok next → left_fold f total (drop i ns) ≡ r → left_fold f spelled (drop (i + 1) ns) ≡ r
fold_next f total next spelled n ns i d r below p q step so_far =
    let exact : f total (get_or ns i d) ≡ Ok next = sym (ap (f total) p) ∙ step in
    ap (λ (x : ℤ). left_fold f x (drop (i + 1) ns)) q ∙ fold_step f total next ns i d r below exact so_far

-- the fold fails where a step does
pub fold_fails : (f : ℤ → ℤ → Result ℤ Failure) (e : ApplyError) (total n : ℤ) (ns : List ℤ) (i : ℕ) (d : ℤ) (r : Result ℤ Failure) → i < length ns → n ≡ get_or ns i d → Fails e (f total n)
    → left_fold f total (drop i ns) ≡ r → Fails e r
fold_fails f errors.NoMemory total n ns i d r below p step so_far = tt
fold_fails f (errors.Fault fault) total n ns i d r below p step so_far =
    let exact : f total (get_or ns i d) ≡ Err (failure_of fault) = sym (ap (f total) p) ∙ step in
    let one : left_fold f total (drop i ns) ≡ Err (failure_of fault) = rw (drop-cons ns i d below, exact) refl in
    sym so_far ∙ one
