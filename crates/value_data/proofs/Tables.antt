-- Pairs found by their keys, and one more pair.
use Rattle.std.proofs.Common.{◌≡◌, ℕ, zero, suc, ◌+◌, ◌<◌, Bool, true, false, not, ◌||◌, List}
use Rattle.std.proofs.Common.{[], ◌∷◌, ◌++◌, length, get_or, Option, Some, None, option_map, take, map}
use Rattle.std.proofs.Common.{add-one, refl, sym, ap, arith}
use Rattle.std.specs.Prelude.{if◌then◌else◌}
use Rattle.value_data.specs.Datum.{Datum, item, Pairs, no_pairs, pair}
use Rattle.value_data.specs.Listed.{items_of, pairs_of}
use Rattle.value_data.specs.Inside.Seen.{key_in, value_of_pair}
use Rattle.value_data.specs.Same.{same}
use Rattle.value_data.specs.Keyed.{value_under, has_key, keys_of, nth_value, value_at_place, behind_all}
use Rattle.value_data.specs.Inside.Placed.{values_of}
use Rattle.value_data.specs.Inside.Placed.{first_place, are_distinct}
use Rattle.value_data.proofs.Equivalence.{same-sym, and-left, and-right, and-both}
use Rattle.value_data.proofs.Transitive.{same-trans}

-- the value at the first place is the key's value
pub value-first : (ps : Pairs) (d : Datum) → value_at_place ps (first_place ps d) ≡ value_under d ps
value-first no_pairs d = refl
value-first (pair k v ps) d = chosen (same k d) (first_place ps d) (value-first ps d)
  where
    chosen : (t : Bool) (o : Option ℕ) → value_at_place ps o ≡ value_under d ps
        → value_at_place (pair k v ps) (if t then Some 0 else option_map (λ n. suc n) o) ≡ (if t then Some v else value_under d ps)
    chosen true o e = refl
    chosen false (Some n) e = e
    chosen false None e = e

-- a key is there where it has a first place
pub has_key-first : (ps : Pairs) (d : Datum) → first_place ps d ≡ None → has_key ps d ≡ false
has_key-first no_pairs d e = refl
has_key-first (pair k v ps) d e = chosen (same k d) (first_place ps d) (has_key-first ps d) e
  where
    chosen : (t : Bool) (o : Option ℕ) → (o ≡ None → has_key ps d ≡ false)
        → (if t then Some 0 else option_map (λ n. suc n) o) ≡ None → (t || has_key ps d) ≡ false
    chosen true o f e = absurd (cc)
    chosen false (Some n) f e = absurd (cc)
    chosen false None f e = f refl

pub has_key-placed : (ps : Pairs) (d : Datum) (n : ℕ) → first_place ps d ≡ Some n → has_key ps d ≡ true
has_key-placed no_pairs d n e = absurd (cc)
has_key-placed (pair k v ps) d n e = chosen (same k d) (first_place ps d) (has_key-placed ps d) e
  where
    chosen : (t : Bool) (o : Option ℕ) → ((m : ℕ) → o ≡ Some m → has_key ps d ≡ true)
        → (if t then Some 0 else option_map (λ n. suc n) o) ≡ Some n → (t || has_key ps d) ≡ true
    chosen true o f e = refl
    chosen false (Some m) f e = f m refl
    chosen false None f e = absurd (cc)

-- ---- one more pair

pub pairs-behind : (xs : List (Datum × Datum)) (k v : Datum) → pairs_of (xs ++ (k, v) ∷ []) ≡ behind_all (pairs_of xs) k v
pairs-behind [] k v = refl
pairs-behind (x ∷ xs) k v = ap (pair x.0 x.1) (pairs-behind xs k v)

pub or-false : (a b : Bool) → (a || b) ≡ false → (a ≡ false) × (b ≡ false)
or-false true b h = absurd (cc)
or-false false b h = (refl, h)

pub false-both : (a b : Bool) → a ≡ false → b ≡ false → (a || b) ≡ false
false-both a b h k = rw (h, k) refl

pub not-true : (b : Bool) → not b ≡ true → b ≡ false
not-true true h = cc
not-true false h = refl

pub true-not : (b : Bool) → b ≡ false → not b ≡ true
true-not true h = cc
true-not false h = refl

pub differ : (k l : Datum) → same k l ≡ false → (b : Bool) → same l k ≡ b → b ≡ false
differ k l h true e = let f : same k l ≡ true = same-sym l k e in cc
differ k l h false e = refl

has_key-behind : (ps : Pairs) (k v d : Datum) → has_key ps d ≡ false → same k d ≡ false → has_key (behind_all ps k v) d ≡ false
has_key-behind no_pairs k v d h n = rw n refl
has_key-behind (pair l w ps) k v d h n =
    let both : (same l d ≡ false) × (has_key ps d ≡ false) = or-false (same l d) (has_key ps d) h in
    false-both (same l d) (has_key (behind_all ps k v) d) both.0 (has_key-behind ps k v d both.1 n)

-- a key that is not there yet may stand behind all
pub distinct-behind : (ps : Pairs) (k v : Datum) → are_distinct ps ≡ true → has_key ps k ≡ false → are_distinct (behind_all ps k v) ≡ true
distinct-behind no_pairs k v h n = refl
distinct-behind (pair l w ps) k v h n =
    let both : (same l k ≡ false) × (has_key ps k ≡ false) = or-false (same l k) (has_key ps k) n in
    and-both (not (has_key (behind_all ps k v) l)) (are_distinct (behind_all ps k v))
    (true-not _ (has_key-behind ps k v l (not-true (has_key ps l) (and-left (not (has_key ps l)) (are_distinct ps) h)) (differ l k both.0 (same k l) refl)))
    (distinct-behind ps k v (and-right (not (has_key ps l)) (are_distinct ps) h) both.1)

-- what equals an equal key equals the key
along : (k l m : Datum) → same k l ≡ true → same m l ≡ false → (b : Bool) → same m k ≡ b → b ≡ false
along k l m e n true f = let g : same m l ≡ true = same-trans m k l f e in cc
along k l m e n false f = refl

pub has_key-along : (qs : Pairs) (k l : Datum) → same k l ≡ true → has_key qs l ≡ false → has_key qs k ≡ false
has_key-along no_pairs k l e h = refl
has_key-along (pair m x qs) k l e h =
    let both : (same m l ≡ false) × (has_key qs l ≡ false) = or-false (same m l) (has_key qs l) h in
    false-both (same m k) (has_key qs k) (along k l m e both.0 (same m k) refl) (has_key-along qs k l e both.1)

-- ---- steps of the functions

pub ruleset table_steps = (value-first)

pub take-behind : (xs : List (Datum × Datum)) (n : ℕ) (p : Datum × Datum) → p ≡ get_or xs n p → n < length xs
    → pairs_of (take (n + 1) xs) ≡ behind_all (pairs_of (take n xs)) p.0 p.1
take-behind xs n p is h = rw (add-one) (more xs n p is h)
  where
    more : (ys : List (Datum × Datum)) (m : ℕ) (q : Datum × Datum) → q ≡ get_or ys m q → m < length ys
        → pairs_of (take (suc m) ys) ≡ behind_all (pairs_of (take m ys)) q.0 q.1
    more [] m q e l = absurd (omega (arith, l))
    more (y ∷ ys) zero q e l = ap (λ (x : Datum × Datum). pair x.0 x.1 no_pairs) (sym e)
    more (y ∷ ys) (suc m) q e l = ap (pair y.0 y.1) (more ys m q e (omega (arith, l)))

-- ---- keys and values as rows

pub keys-of-pairs : (qs : List (Datum × Datum)) → items_of (map key_in qs) ≡ keys_of (pairs_of qs)
keys-of-pairs [] = refl
keys-of-pairs (q ∷ qs) = ap (item q.0) (keys-of-pairs qs)

pub values-of-pairs : (qs : List (Datum × Datum)) → items_of (map value_of_pair qs) ≡ values_of (pairs_of qs)
values-of-pairs [] = refl
values-of-pairs (q ∷ qs) = ap (item q.1) (values-of-pairs qs)

pub value-got : (qs : List (Datum × Datum)) (n : ℕ) (v : Datum) → v ≡ get_or (map value_of_pair qs) n v → n < length qs → nth_value (pairs_of qs) n ≡ Some v
value-got [] n v is h = absurd (omega (arith, h))
value-got (q ∷ qs) zero v is h = ap Some (sym is)
value-got (q ∷ qs) (suc n) v is h = value-got qs n v is (omega (arith, h))
