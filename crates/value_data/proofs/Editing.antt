-- A pair put into a map's pairs.
use Rattle.std.proofs.Common.{◌≡◌, ℕ, zero, suc, ◌<◌, Bool, true, false, ◌||◌, List, [], ◌∷◌, ◌++◌, length, get_or, set, Option, Some, None, option_map, map as each, refl, sym, ap, ◌∙◌, arith}
use Rattle.std.specs.Prelude.{if◌then◌else◌}
use Rattle.value_data.specs.Datum.{Datum, Pairs, no_pairs, pair}
use Rattle.value_data.specs.Listed.{pairs_of}
use Rattle.value_data.specs.Inside.Seen.{key_in}
use Rattle.value_data.specs.Same.{same}
use Rattle.value_data.specs.Keyed.{has_key, behind_all}
use Rattle.value_data.specs.Inside.Placed.{first_place, are_distinct, with_value}
use Rattle.value_data.specs.Put.{put_pair}
use Rattle.value_data.proofs.Tables.{distinct-behind, has_key-first, pairs-behind}

suc-Some : (o : Option ℕ) (n : ℕ) → option_map (λ (m : ℕ). suc m) o ≡ Some (suc n) → o ≡ Some n
suc-Some None n h = cc
suc-Some (Some m) n h = cc

suc-None : (o : Option ℕ) → option_map (λ (m : ℕ). suc m) o ≡ None → o ≡ None
suc-None None h = refl
suc-None (Some m) h = cc

some : (m n : ℕ) → Some m ≡ Some n → m ≡ n
some m n h = cc

suc-zero : (o : Option ℕ) → option_map (λ (m : ℕ). suc m) o ≡ Some 0 → ⊥
suc-zero None h = cc
suc-zero (Some m) h = omega (arith, some (suc m) 0 h)

found-step : (t : Bool) (l w : Datum) (ps : Pairs) (n : ℕ) (k v : Datum)
    → ((m : ℕ) → first_place ps k ≡ Some m → put_pair k v ps ≡ with_value m v ps)
    → (if t then Some 0 else option_map (λ (m : ℕ). suc m) (first_place ps k)) ≡ Some n
    → (if t then pair l v ps else pair l w (put_pair k v ps)) ≡ with_value n v (pair l w ps)
found-step true l w ps zero k v more h = refl
found-step true l w ps (suc n) k v more h = absurd (omega (arith, some 0 (suc n) h))
found-step false l w ps zero k v more h = absurd (suc-zero (first_place ps k) h)
found-step false l w ps (suc n) k v more h = ap (pair l w) (more n (suc-Some (first_place ps k) n h))

put-found : (ps : Pairs) (k v : Datum) (n : ℕ) → first_place ps k ≡ Some n → put_pair k v ps ≡ with_value n v ps
put-found no_pairs k v n h = cc
put-found (pair l w ps) k v n h = found-step (same l k) l w ps n k v (λ m e. put-found ps k v m e) h

new-step : (t : Bool) (l w : Datum) (ps : Pairs) (k v : Datum) → (first_place ps k ≡ None → put_pair k v ps ≡ behind_all ps k v)
    → (if t then Some 0 else option_map (λ (m : ℕ). suc m) (first_place ps k)) ≡ None
    → (if t then pair l v ps else pair l w (put_pair k v ps)) ≡ pair l w (behind_all ps k v)
new-step true l w ps k v more h = cc
new-step false l w ps k v more h = ap (pair l w) (more (suc-None (first_place ps k) h))

put-new : (ps : Pairs) (k v : Datum) → first_place ps k ≡ None → put_pair k v ps ≡ behind_all ps k v
put-new no_pairs k v h = refl
put-new (pair l w ps) k v h = new-step (same l k) l w ps k v (λ e. put-new ps k v e) h

within-step : (t : Bool) (o : Option ℕ) (s n : ℕ) → ((m : ℕ) → o ≡ Some m → m < s)
    → (if t then Some 0 else option_map (λ (m : ℕ). suc m) o) ≡ Some n → n < suc s
within-step true o s n h e = omega (arith, some 0 n e)
within-step false o s zero h e = absurd (suc-zero o e)
within-step false o s (suc n) h e = omega (arith, h n (suc-Some o n e))

-- what is found stands among the pairs
pub first_place-within : (xs : List (Datum × Datum)) (d : Datum) (n : ℕ) → first_place (pairs_of xs) d ≡ Some n → n < length xs
first_place-within [] d n h = cc
first_place-within (x ∷ xs) d n h =
    within-step (same x.0 d) (first_place (pairs_of xs) d) (length xs) n (λ m e. first_place-within xs d m e) h

has_key-with_value : (m : ℕ) (v d : Datum) (ps : Pairs) → has_key (with_value m v ps) d ≡ has_key ps d
has_key-with_value m v d no_pairs = refl
has_key-with_value zero v d (pair k w ps) = refl
has_key-with_value (suc m) v d (pair k w ps) = ap (λ b. same k d || b) (has_key-with_value m v d ps)

distinct-with_value : (m : ℕ) (v : Datum) (ps : Pairs) → are_distinct (with_value m v ps) ≡ are_distinct ps
distinct-with_value m v no_pairs = refl
distinct-with_value zero v (pair k w ps) = refl
distinct-with_value (suc m) v (pair k w ps) = rw (has_key-with_value m v k ps, distinct-with_value m v ps) refl

pub set-value : (qs : List (Datum × Datum)) (n : ℕ) (k w d : Datum) → n < length qs → k ≡ get_or (each key_in qs) n d
    → pairs_of (set qs n (k, w)) ≡ with_value n w (pairs_of qs)
set-value [] n k w d h is = absurd (omega (arith, h))
set-value (q ∷ qs) zero k w d h is = ap (λ (e : Datum). pair e w (pairs_of qs)) is
set-value (q ∷ qs) (suc n) k w d h is = ap (pair q.0 q.1) (set-value qs n k w d (omega (arith, h)) is)

pub pushed-is : (qs rs : List (Datum × Datum)) (k w key value : Datum) → k ≡ key → w ≡ value → rs ≡ qs ++ (k, w) ∷ []
    → pairs_of rs ≡ behind_all (pairs_of qs) key value
pushed-is qs rs k w key value ek ew is =
    ap pairs_of is
    ∙ pairs-behind qs k w
    ∙ ap (λ d. behind_all (pairs_of qs) d w) ek
    ∙ ap (behind_all (pairs_of qs) key) ew

pub replaced-is : (qs rs : List (Datum × Datum)) (n : ℕ) (d w value : Datum) → w ≡ value → n < length qs → rs ≡ set qs n (get_or (each key_in qs) n d, w)
    → pairs_of rs ≡ with_value n value (pairs_of qs)
replaced-is qs rs n d w value ew h is =
    ap pairs_of is
    ∙ set-value qs n (get_or (each key_in qs) n d) w d h refl
    ∙ ap (λ (e : Datum). with_value n e (pairs_of qs)) ew

pub found-put : (ps qs : Pairs) (key value : Datum) (n : ℕ) → first_place ps key ≡ Some n → qs ≡ with_value n value ps → qs ≡ put_pair key value ps
found-put ps qs key value n e is = is ∙ sym (put-found ps key value n e)

pub found-distinct : (ps qs : Pairs) (n : ℕ) (v : Datum) → qs ≡ with_value n v ps → are_distinct ps ≡ true → are_distinct qs ≡ true
found-distinct ps qs n v e h = ap are_distinct e ∙ distinct-with_value n v ps ∙ h

pub new-put : (ps qs : Pairs) (key value : Datum) → first_place ps key ≡ None → qs ≡ behind_all ps key value → qs ≡ put_pair key value ps
new-put ps qs key value e is = is ∙ sym (put-new ps key value e)

pub new-distinct : (ps qs : Pairs) (key value : Datum) → first_place ps key ≡ None → qs ≡ behind_all ps key value → are_distinct ps ≡ true → are_distinct qs ≡ true
new-distinct ps qs key value e is d =
    ap are_distinct is ∙ distinct-behind ps key value d (has_key-first ps key e)

pub ruleset edit_steps = (first_place-within)
