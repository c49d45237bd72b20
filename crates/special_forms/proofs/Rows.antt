-- Forms by their places.
use Rattle.std.proofs.Common.{◌≡◌, ℕ, zero, suc, ◌*◌, ◌<◌, ◌≤◌, List, [], ◌∷◌, Some, None, slice_get, length, take, drop, refl, sym, ap, ◌∙◌, arith}
use Rattle.std.specs.Prelude.{◌/◌, ◌%◌}
use Rattle.value_data.specs.Datum.{Datum, Pairs, no_pairs, pair}
use Rattle.value_data.specs.Listed.{listed}
use Rattle.value_data.specs.Same.{size}
use Rattle.value_data.specs.Keyed.{keys_of}
use Rattle.value_data.specs.Inside.Placed.{values_of}
use Rattle.value_data.proofs.Views.{value_views}
use Rattle.value_data.proofs.Lists.{listed-of, lists}
use Rattle.special_forms.specs.Rows.{in_a_row}

pub row-past : (ds : List Datum) (i e : ℕ) → e ≤ i → drop i (take e ds) ≡ []
row-past [] zero zero h = refl
row-past [] zero (suc e) h = absurd (omega (arith, h))
row-past [] (suc i) zero h = refl
row-past [] (suc i) (suc e) h = refl
row-past (d ∷ ds) zero zero h = refl
row-past (d ∷ ds) zero (suc e) h = absurd (omega (arith, h))
row-past (d ∷ ds) (suc i) zero h = refl
row-past (d ∷ ds) (suc i) (suc e) h = row-past ds i e (omega (arith, h))

pub row-end : (ds : List Datum) (i e : ℕ) → None ≡ slice_get ds i → drop i (take e ds) ≡ []
row-end [] zero zero h = refl
row-end [] zero (suc e) h = refl
row-end [] (suc i) zero h = refl
row-end [] (suc i) (suc e) h = refl
row-end (d ∷ ds) zero e h = cc
row-end (d ∷ ds) (suc i) zero h = refl
row-end (d ∷ ds) (suc i) (suc e) h = row-end ds i e h

pub row-step : (ds : List Datum) (i e : ℕ) (d : Datum) → i < e → Some d ≡ slice_get ds i → drop i (take e ds) ≡ d ∷ drop (suc i) (take e ds)
row-step [] i e d i< h = cc
row-step (c ∷ ds) i zero d i< h = absurd (omega (arith, i<))
row-step (c ∷ ds) zero (suc e) d i< h = let here : d ≡ c = cc in ap (λ (x : Datum). x ∷ take e ds) (sym here)
row-step (c ∷ ds) (suc i) (suc e) d i< h = row-step ds i e d (omega (arith, i<)) h

pub row-first : (ds : List Datum) (i e : ℕ) → i < e → drop i (take (suc i) ds) ≡ take 1 (drop i (take e ds))
row-first [] zero zero h = absurd (omega (arith, h))
row-first [] zero (suc e) h = refl
row-first [] (suc i) zero h = refl
row-first [] (suc i) (suc e) h = refl
row-first (d ∷ ds) i zero h = absurd (omega (arith, h))
row-first (d ∷ ds) zero (suc e) h = refl
row-first (d ∷ ds) (suc i) (suc e) h = row-first ds i e (omega (arith, h))

pub row-first_past : (ds : List Datum) (i e : ℕ) → e ≤ i → drop i (take e ds) ≡ take 1 (drop i (take e ds))
row-first_past ds i e h = let none = row-past ds i e h in none ∙ sym (ap (take 1) none)

pub row-whole : (ds : List Datum) (e : ℕ) → e ≡ length ds → drop 0 (take e ds) ≡ ds
row-whole [] zero h = refl
row-whole [] (suc e) h = refl
row-whole (d ∷ ds) zero h = absurd (omega (arith, h))
row-whole (d ∷ ds) (suc e) h = ap (λ (es : List Datum). d ∷ es) (row-whole ds e (omega (arith, h)))

-- a map's keys and values are two for each pair
pub length-in_a_row : (ps : Pairs) → length (in_a_row ps) ≡ size ps * 2
length-in_a_row no_pairs = refl
length-in_a_row (pair k v ps) = omega (arith, length-in_a_row ps)

key-in_a_row : (ps : Pairs) (n : ℕ) → slice_get (in_a_row ps) (n * 2) ≡ slice_get (listed (keys_of ps)) n
key-in_a_row no_pairs n = refl
key-in_a_row (pair k v ps) zero = refl
key-in_a_row (pair k v ps) (suc n) =
    let two : suc n * 2 ≡ suc (suc (n * 2)) = omega arith in
    ap (slice_get (in_a_row (pair k v ps))) two ∙ key-in_a_row ps n

value-in_a_row : (ps : Pairs) (n : ℕ) → slice_get (in_a_row ps) (suc (n * 2)) ≡ slice_get (listed (values_of ps)) n
value-in_a_row no_pairs n = refl
value-in_a_row (pair k v ps) zero = refl
value-in_a_row (pair k v ps) (suc n) =
    let two : suc (suc n * 2) ≡ suc (suc (suc (n * 2))) = omega arith in
    ap (slice_get (in_a_row (pair k v ps))) two ∙ value-in_a_row ps n

-- by what is left when halved
pub key-at : (ps : Pairs) (n : ℕ) → n % 2 ≡ 0 → slice_get (in_a_row ps) n ≡ slice_get (listed (keys_of ps)) (n / 2)
key-at ps n even = let whole : n ≡ (n / 2) * 2 = omega (arith, even) in ap (slice_get (in_a_row ps)) whole ∙ key-in_a_row ps (n / 2)

pub value-at : (ps : Pairs) (n : ℕ) → ¬ (n % 2 ≡ 0) → slice_get (in_a_row ps) n ≡ slice_get (listed (values_of ps)) (n / 2)
value-at ps n odd = let whole : n ≡ suc ((n / 2) * 2) = omega (arith, odd) in ap (slice_get (in_a_row ps)) whole ∙ value-in_a_row ps (n / 2)

pub ruleset row_steps = (value_views, lists, row-past, row-end, row-step, row-first, row-first_past, row-whole, length-in_a_row, key-at, value-at)
