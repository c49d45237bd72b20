-- What `parse` reads of a number is what its digits spell.
use Rattle.std.proofs.Common.{◌≡◌, ◌≢◌, ℕ, ℤ, pos, neg_ℤ, ◌^◌, Bool, true, false, cond, not, ◌&&◌, ltb, leb, eqb, List, length, get_or, drop, Some, None, Result, Ok, Err, refl, sym, ap, arith}
use Rattle.std.specs.Result.{OkIff, result_ok}
use Rattle.std.specs.Int.{w64}
use Rattle.std.specs.Str.{all_ascii_digits}
use Rattle.std.specs.Str.Parse.{digits_value, ParsesSigned}
use Rattle.std.proofs.lemmas.Bool.Decides.{nat_tests}
use Rattle.std.proofs.lemmas.Str.Parse.{IsNumeralModel, numerals_by_value, tells_all_ascii_digits, parse_signed_minus, parse_signed_plus, parse_signed_plain}
use Rattle.repl_reader.specs.Token.{integer_of, without_sign, has_leading_zero}

own : IsNumeralModel (λ ds. all_ascii_digits ds ≡ true) (digits_value 10)
own = numerals_by_value _ tells_all_ascii_digits

-- what a parse that goes by three tests gives, where a fourth is false
tested : {E : Type 0} (r : Result ℤ E) (a b f z : Bool) (v : ℤ) → OkIff r ((a ≡ true) × (b ≡ true) × (f ≡ true)) v → z ≡ false
    → result_ok r ≡ cond (a && b && not z) (cond f (Some v) None) None
tested (Ok x) a b f z v h e = rw (e, h.0.0, h.0.1, h.0.2) (ap Some h.1)
tested (Err x) true true true z v h e = absurd (h (refl, refl, refl))
tested (Err x) true true false z v h e = rw e refl
tested (Err x) true false f z v h e = refl
tested (Err x) false b f z v h e = refl

by_tests : {E : Type 0} (r : Result ℤ E) (P Q : Type 0) (v : ℤ) → (P → Q) → (Q → P) → OkIff r P v → OkIff r Q v
by_tests (Ok x) P Q v to from h = (to h.0, h.1)
by_tests (Err x) P Q v to from h = λ q. h (from q)

module _ {E : Type 0} (t : List ℕ) (r : Result ℤ E) (h : ParsesSigned w64 10 t r) where
  minus : get_or t 0 0 ≡ 45 → has_leading_zero (without_sign t) ≡ false → result_ok r ≡ integer_of t
  unfolding integer_of
  minus e z = rw e (tested r (all_ascii_digits (drop 1 t)) (ltb 0 (length (drop 1 t))) (leb (digits_value 10 (drop 1 t)) (2 ^ 63)) _ (neg_ℤ (pos (digits_value 10 (drop 1 t))))
      (by_tests r _ _ _ (λ p. (p.0, grind (arith, nat_tests), grind (arith, nat_tests))) (λ q. (q.0, grind (arith, nat_tests), grind (arith, nat_tests)))
      (parse_signed_minus own w64 t r h e)) (rw e at z))

  plus : get_or t 0 0 ≡ 43 → has_leading_zero (without_sign t) ≡ false → result_ok r ≡ integer_of t
  unfolding integer_of
  plus e z = rw e (tested r (all_ascii_digits (drop 1 t)) (ltb 0 (length (drop 1 t))) (ltb (digits_value 10 (drop 1 t)) (2 ^ 63)) _ (pos (digits_value 10 (drop 1 t)))
      (by_tests r _ _ _ (λ p. (p.0, grind (arith, nat_tests), grind (arith, nat_tests))) (λ q. (q.0, grind (arith, nat_tests), grind (arith, nat_tests)))
      (parse_signed_plus own w64 t r h e)) (rw e at z))

  bare_digits : eqb (get_or t 0 0) 45 ≡ false → eqb (get_or t 0 0) 43 ≡ false → get_or t 0 0 ≢ 45 → get_or t 0 0 ≢ 43
      → has_leading_zero (without_sign t) ≡ false → result_ok r ≡ integer_of t
  unfolding integer_of
  bare_digits m p nm np z = rw (p, m) (tested r (all_ascii_digits t) (ltb 0 (length t)) (ltb (digits_value 10 t) (2 ^ 63)) _ (pos (digits_value 10 t))
      (by_tests r _ _ _ (λ q. (q.0, grind (arith, nat_tests), grind (arith, nat_tests))) (λ q. (q.0, grind (arith, nat_tests), grind (arith, nat_tests)))
      (parse_signed_plain own w64 t r h np nm)) (rw (p, m) at z))

  pub number_is : has_leading_zero (without_sign t) ≡ false → result_ok r ≡ integer_of t
  number_is z = by_sign (eqb (get_or t 0 0) 45) refl (eqb (get_or t 0 0) 43) refl
    where
      by_sign : (m : Bool) → m ≡ eqb (get_or t 0 0) 45 → (p : Bool) → p ≡ eqb (get_or t 0 0) 43 → result_ok r ≡ integer_of t
      by_sign true e p f = minus (grind (arith, nat_tests)) z
      by_sign false e true f = plus (grind (arith, nat_tests)) z
      by_sign false e false f = bare_digits (sym e) (sym f) (grind (arith, nat_tests)) (grind (arith, nat_tests)) z
