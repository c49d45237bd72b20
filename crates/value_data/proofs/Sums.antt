-- What is kept of two lists, one behind the other.
use Rattle.std.proofs.Common.{◌≡◌, Bool, true, false, ◌&&◌, ℕ, ◌+◌, ◌*◌, ◌%◌, ◌^◌, ◌<◌, max, List, [], ◌∷◌, ◌++◌, refl, ap, ◌∙◌, sym, arith}
use Rattle.std.proofs.Math.Nat.{add-mod, mod-mod, mod-eq_of_lt}
use Rattle.std.proofs.lemmas.Nat.{mul-mod, mod_below}
use Rattle.value_data.specs.Datum.{Datum}
use Rattle.value_data.specs.Listed.{items_of}
use Rattle.value_data.specs.Measures.{items_weight, items_nesting, is_plain, are_plain}
use Rattle.value_data.specs.Inside.Hash.{hash, mixed, items_hash, factor, addend}

and-assoc : (a b c : Bool) → (a && (b && c)) ≡ ((a && b) && c)
and-assoc true b c = refl
and-assoc false b c = refl

pub and-true : (b : Bool) → b ≡ (b && true)
and-true true = refl
and-true false = refl

pub weight-append : (xs ys : List Datum) → items_weight (items_of (xs ++ ys)) ≡ items_weight (items_of xs) + items_weight (items_of ys)
weight-append [] ys = omega arith
weight-append (x ∷ xs) ys = omega (arith, weight-append xs ys)

pub nesting-append : (xs ys : List Datum) → items_nesting (items_of (xs ++ ys)) ≡ max (items_nesting (items_of xs)) (items_nesting (items_of ys))
nesting-append [] ys = omega arith
nesting-append (x ∷ xs) ys = omega (arith, nesting-append xs ys)

pub plain-append : (xs ys : List Datum) → are_plain (items_of (xs ++ ys)) ≡ (are_plain (items_of xs) && are_plain (items_of ys))
plain-append [] ys = refl
plain-append (x ∷ xs) ys = ap (λ b. is_plain x && b) (plain-append xs ys) ∙ and-assoc (is_plain x) (are_plain (items_of xs)) (are_plain (items_of ys))

-- ---- sums and products, with any width

module _ (w : ℕ) where
  again : (a : ℕ) → (a % w) % w ≡ a % w
  again a = mod-mod a w

  plus : (a b c d : ℕ) → a % w ≡ c % w → b % w ≡ d % w → (a + b) % w ≡ (c + d) % w
  plus a b c d h k = add-mod a b w ∙ ap (λ x. (x + b % w) % w) h ∙ ap (λ x. (c % w + x) % w) k ∙ sym (add-mod c d w)

  times : (a b c d : ℕ) → a % w ≡ c % w → b % w ≡ d % w → (a * b) % w ≡ (c * d) % w
  times a b c d h k = mul-mod a b w ∙ ap (λ x. (x * (b % w)) % w) h ∙ ap (λ x. (c % w * x) % w) k ∙ sym (mul-mod c d w)

  linear : (f b m h s : ℕ)
      → ((f * (((b * m) % w + h) % w)) % w + s) % w ≡ ((((f * m) % w) * b) % w + ((h * f) % w + s) % w) % w
  linear f b m h s =
      plus _ s (f * (b * m + h)) s (again _ ∙ times f _ f (b * m + h) refl (again _ ∙ plus _ h (b * m) h (again (b * m)) refl)) refl
      ∙ ap (λ x. x % w) (ring f b m h s)
      ∙ sym (plus _ _ ((f * m) * b) (h * f + s) (again _ ∙ times _ b (f * m) b (again (f * m)) refl) (again _ ∙ plus _ s (h * f) s (again (h * f)) refl))
    where
      ring : (f b m h s : ℕ) → f * (b * m + h) + s ≡ (f * m) * b + (h * f + s)
      ring f b m h s = grind arith

  -- one more factor, before two that were multiplied
  product : (f g m : ℕ) → (((f * g) % w) * m) % w ≡ (((f * m) % w) * g) % w
  product f g m =
      times _ m (f * g) m (again (f * g)) refl
      ∙ ap (λ x. x % w) (ring f g m)
      ∙ sym (times _ g (f * m) g (again (f * m)) refl)
    where
      ring : (f g m : ℕ) → (f * g) * m ≡ (f * m) * g
      ring f g m = grind arith

  -- one more addend, before two that were added
  addition : (h f g a b : ℕ)
      → ((h * ((f * g) % w)) % w + ((a * g) % w + b) % w) % w ≡ (((((h * f) % w + a) % w) * g) % w + b) % w
  addition h f g a b =
      plus _ _ (h * (f * g)) (a * g + b) (again _ ∙ times h _ h (f * g) refl (again (f * g))) (again _ ∙ plus _ b (a * g) b (again (a * g)) refl)
      ∙ ap (λ x. x % w) (ring h f g a b)
      ∙ sym (plus _ b ((h * f + a) * g) b (again _ ∙ times _ g (h * f + a) g (again _ ∙ plus _ a (h * f) a (again (h * f)) refl) refl) refl)
    where
      ring : (h f g a b : ℕ) → h * (f * g) + (a * g + b) ≡ (h * f + a) * g + b
      ring h f g a b = grind arith

factor-below : (ys : List Datum) → factor ys < 2 ^ 64
unfolding factor
factor-below [] = omega arith
factor-below (y ∷ ys) = mod_below _ (2 ^ 64) (omega arith)

addend-below : (ys : List Datum) → addend ys < 2 ^ 64
unfolding addend
addend-below [] = omega arith
addend-below (y ∷ ys) = mod_below _ (2 ^ 64) (omega arith)

pub factor-append : (xs ys : List Datum) → factor (xs ++ ys) ≡ (factor xs * factor ys) % 2 ^ 64
unfolding factor
factor-append [] ys =
    let one : 1 * factor ys ≡ factor ys = omega arith in
    sym (ap (λ x. x % 2 ^ 64) one ∙ mod-eq_of_lt (factor-below ys))
factor-append (x ∷ xs) ys =
    ap (λ f. (f * 0x9E3779B97F4A7C15) % 2 ^ 64) (factor-append xs ys)
    ∙ product (2 ^ 64) (factor xs) (factor ys) 0x9E3779B97F4A7C15

pub addend-append : (xs ys : List Datum) → addend (xs ++ ys) ≡ ((addend xs * factor ys) % 2 ^ 64 + addend ys) % 2 ^ 64
unfolding addend
addend-append [] ys =
    let none : 0 * factor ys ≡ 0 = omega arith in
    let zero_mod : 0 % 2 ^ 64 ≡ 0 = refl in
    let plain : 0 + addend ys ≡ addend ys = omega arith in
    sym (ap (λ x. (x % 2 ^ 64 + addend ys) % 2 ^ 64) none ∙ ap (λ x. (x + addend ys) % 2 ^ 64) zero_mod ∙ ap (λ x. x % 2 ^ 64) plain ∙ mod-eq_of_lt (addend-below ys))
addend-append (x ∷ xs) ys =
    ap (λ f. ((hash x * f) % 2 ^ 64 + addend (xs ++ ys)) % 2 ^ 64) (factor-append xs ys)
    ∙ ap (λ a. ((hash x * ((factor xs * factor ys) % 2 ^ 64)) % 2 ^ 64 + a) % 2 ^ 64) (addend-append xs ys)
    ∙ addition (2 ^ 64) (hash x) (factor xs) (factor ys) (addend xs) (addend ys)

mixed-below : (b h : ℕ) → mixed b h < 2 ^ 64
unfolding mixed
mixed-below b h = mod_below _ (2 ^ 64) (omega arith)

pub hash-linear : (b : ℕ) (ds : List Datum) → b < 2 ^ 64 → items_hash b (items_of ds) ≡ ((factor ds * b) % 2 ^ 64 + addend ds) % 2 ^ 64
unfolding factor addend mixed
hash-linear b [] h =
    let one : 1 * b ≡ b = omega arith in
    let none : b + 0 ≡ b = omega arith in
    sym (ap (λ x. (x % 2 ^ 64 + 0) % 2 ^ 64) one ∙ ap (λ x. (x + 0) % 2 ^ 64) (mod-eq_of_lt h) ∙ ap (λ x. x % 2 ^ 64) none ∙ mod-eq_of_lt h)
hash-linear b (d ∷ ds) h =
    hash-linear (mixed b (hash d)) ds (mixed-below b (hash d))
    ∙ linear (2 ^ 64) (factor ds) b 0x9E3779B97F4A7C15 (hash d) (addend ds)

pub factor-one : (d : Datum) → factor (d ∷ []) ≡ 0x9E3779B97F4A7C15
unfolding factor
factor-one d = refl

pub addend-one : (d : Datum) → hash d < 2 ^ 64 → addend (d ∷ []) ≡ hash d
unfolding addend factor
addend-one d h =
    let one : hash d * 1 ≡ hash d = omega arith in
    let none : hash d + 0 ≡ hash d = omega arith in
    ap (λ x. (x % 2 ^ 64 + 0) % 2 ^ 64) one ∙ ap (λ x. (x + 0) % 2 ^ 64) (mod-eq_of_lt h) ∙ ap (λ x. x % 2 ^ 64) none ∙ mod-eq_of_lt h
