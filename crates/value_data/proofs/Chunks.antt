-- Items that are read chunk by chunk.
use Rattle.std.proofs.Common.{◌≡◌, ⊎_elim, ℕ, zero, suc, ◌+◌, ◌-◌, ◌<◌, ◌≤◌, min, List, [], ◌∷◌, length, take, drop, map as each, refl, ap, sym, ◌∙◌, arith}
use Rattle.std.proofs.lemmas.Bool.{cases_lt}
use Rattle.std.specs.declared.cmp.Ordering.{Ordering}
use Rattle.std.specs.declared.cmp.Ordering.TheVariants.{Less, Equal, Greater}
use Rattle.std.specs.Ordering.{nat_cmp, ordering_then}
use Rattle.std.specs.Cmp.{nat_cmp_is}
use Rattle.value_data.specs.Datum.{Datum, Items, no_items, item}
use Rattle.value_data.specs.Listed.{listed, items_of}
use Rattle.value_data.specs.Inside.View.{view, views, items_view}
use Rattle.value_data.specs.Inside.Order.{SortKey, order, chain, sort_key, items_sort_key}
use Rattle.value_data.specs.declared.value.Value.{Value}
use Rattle.value_data.proofs.Rows.{length-views}
use Rattle.value_data.proofs.Ranked.{chain-end, chain-longer}
use Rattle.value_data.proofs.Size.{items_nodes}

-- what items are compared by
abbrev pub keys : List Datum → SortKey
keys ds = chain (each sort_key ds)

pub keys-listed : (ds : Items) → keys (listed ds) ≡ items_sort_key ds
keys-listed no_items = refl
keys-listed (item d ds) = rw (keys-listed ds) refl

pub keys-views : (vs : List Value) → keys (views vs) ≡ items_sort_key (items_view vs)
keys-views [] = refl
keys-views (v ∷ vs) = rw (keys-views vs) refl

-- ---- parts of lists

views-take : (vs : List Value) (n : ℕ) → views (take n vs) ≡ take n (views vs)
views-take [] zero = refl
views-take [] (suc n) = refl
views-take (v ∷ vs) zero = refl
views-take (v ∷ vs) (suc n) = ap (λ (ds : List Datum). view v ∷ ds) (views-take vs n)

take-less : (ds : List Datum) (m n : ℕ) → m ≤ n → take m (take n ds) ≡ take m ds
take-less [] zero zero h = refl
take-less [] zero (suc n) h = refl
take-less [] (suc m) zero h = refl
take-less [] (suc m) (suc n) h = refl
take-less (d ∷ ds) zero zero h = refl
take-less (d ∷ ds) zero (suc n) h = refl
take-less (d ∷ ds) (suc m) zero h = absurd (omega (arith, h))
take-less (d ∷ ds) (suc m) (suc n) h = ap (λ (es : List Datum). d ∷ es) (take-less ds m n (omega (arith, h)))

length-take : (ds : List Datum) (n : ℕ) → length (take n ds) ≤ length ds
length-take [] zero = omega arith
length-take [] (suc n) = omega arith
length-take (d ∷ ds) zero = omega arith
length-take (d ∷ ds) (suc n) = omega (arith, length-take ds n)

length-drop : (ds : List Datum) (n : ℕ) → length (drop n ds) ≡ length ds - n
length-drop [] zero = refl
length-drop [] (suc n) = omega arith
length-drop (d ∷ ds) zero = omega arith
length-drop (d ∷ ds) (suc n) = omega (arith, length-drop ds n)

drop-more : (ds : List Datum) (m n : ℕ) → drop n (drop m ds) ≡ drop (m + n) ds
drop-more ds zero n =
    let plain : 0 + n ≡ n = omega arith in
    rw plain refl
drop-more [] (suc m) zero =
    let plain : suc m + 0 ≡ suc m = omega arith in
    rw plain refl
drop-more [] (suc m) (suc n) =
    let plain : suc m + suc n ≡ suc (m + suc n) = omega arith in
    rw plain refl
drop-more (d ∷ ds) (suc m) n =
    let plain : suc m + n ≡ suc (m + n) = omega arith in
    rw plain (drop-more ds m n)

pub length-parts : (vs ws : List Value) (n : ℕ) → n ≤ length vs → n ≤ length ws → length (take n vs) ≡ length (take n ws)
length-parts vs ws zero h k = refl
length-parts [] ws (suc n) h k = absurd (omega (arith, h))
length-parts (v ∷ vs) [] (suc n) h k = absurd (omega (arith, k))
length-parts (v ∷ vs) (w ∷ ws) (suc n) h k = ap suc (length-parts vs ws n (omega (arith, h)) (omega (arith, k)))

-- ---- chunks

-- the first items of a chunk
chunk-part : (vs : List Value) (ds : List Datum) (place row : ℕ) → views vs ≡ take (length vs) (drop place ds) → row ≤ length vs
    → views (take row vs) ≡ take row (drop place ds)
chunk-part vs ds place row e h =
    views-take vs row ∙ ap (take row) e ∙ take-less (drop place ds) row (length vs) h

pub chunk-fits : (vs : List Value) (ds : List Datum) (place : ℕ) → views vs ≡ take (length vs) (drop place ds) → length vs ≤ length ds - place
chunk-fits vs ds place e =
    let long = ap (λ (es : List Datum). length es) e in
    omega (arith, long, length-views vs, length-take (drop place ds) (length vs), length-drop ds place)

take-nodes : (ds : List Datum) (n : ℕ) → items_nodes (items_of (take n ds)) ≤ items_nodes (items_of ds)
take-nodes [] zero = omega arith
take-nodes [] (suc n) = omega arith
take-nodes (d ∷ ds) zero = omega arith
take-nodes (d ∷ ds) (suc n) = omega (arith, take-nodes ds n)

drop-nodes : (ds : List Datum) (n : ℕ) → items_nodes (items_of (drop n ds)) ≤ items_nodes (items_of ds)
drop-nodes [] zero = omega arith
drop-nodes [] (suc n) = omega arith
drop-nodes (d ∷ ds) zero = omega arith
drop-nodes (d ∷ ds) (suc n) = omega (arith, drop-nodes ds n)

listed-nodes : (ds : Items) → items_nodes (items_of (listed ds)) ≡ items_nodes ds
listed-nodes no_items = refl
listed-nodes (item d ds) = omega (arith, listed-nodes ds)

pub chunk-nodes : (vs : List Value) (ds : Items) (place row : ℕ) → views vs ≡ take (length vs) (drop place (listed ds)) → row ≤ length vs
    → items_nodes (items_view (take row vs)) ≤ items_nodes ds
chunk-nodes vs ds place row e h =
    let same = ap (λ (es : List Datum). items_nodes (items_of es)) (chunk-part vs (listed ds) place row e h) in
    omega (arith, same, take-nodes (drop place (listed ds)) row, drop-nodes (listed ds) place, listed-nodes ds)

-- ---- their order

then-assoc : (p q r : Ordering) → ordering_then p (ordering_then q r) ≡ ordering_then (ordering_then p q) r
then-assoc Less q r = refl
then-assoc Equal q r = refl
then-assoc Greater q r = refl

order-step : (ds es : List Datum) (row : ℕ) → row ≤ length ds → row ≤ length es
    → order (keys ds) (keys es) ≡ ordering_then (order (keys (take row ds)) (keys (take row es))) (order (keys (drop row ds)) (keys (drop row es)))
order-step ds es zero h k = refl
order-step [] es (suc row) h k = absurd (omega (arith, h))
order-step (d ∷ ds) [] (suc row) h k = absurd (omega (arith, k))
order-step (d ∷ ds) (e ∷ es) (suc row) h k =
    ap (λ (o : Ordering). ordering_then (order (sort_key d) (sort_key e)) o) (order-step ds es row (omega (arith, h)) (omega (arith, k)))
    ∙ then-assoc (order (sort_key d) (sort_key e)) (order (keys (take row ds)) (keys (take row es))) (order (keys (drop row ds)) (keys (drop row es)))

pub chunks-order : (vs ws : List Value) (ds es : List Datum) (place row : ℕ)
    → views vs ≡ take (length vs) (drop place ds) → views ws ≡ take (length ws) (drop place es) → row ≤ length vs → row ≤ length ws
    → order (keys (drop place ds)) (keys (drop place es))
    ≡ ordering_then (order (items_sort_key (items_view (take row vs))) (items_sort_key (items_view (take row ws)))) (order (keys (drop (place + row) ds)) (keys (drop (place + row) es)))
chunks-order vs ws ds es place row e f h k =
    let rest = order (keys (drop row (drop place ds))) (keys (drop row (drop place es))) in
    order-step (drop place ds) (drop place es) row
    (omega (arith, h, chunk-fits vs ds place e, length-drop ds place)) (omega (arith, k, chunk-fits ws es place f, length-drop es place))
    ∙ ap (λ (xs : List Datum). ordering_then (order (keys xs) (keys (take row (drop place es)))) rest) (sym (chunk-part vs ds place row e h))
    ∙ ap (λ (xs : List Datum). ordering_then (order (keys (views (take row vs))) (keys xs)) rest) (sym (chunk-part ws es place row f k))
    ∙ ap (λ (s : SortKey). ordering_then (order s (keys (views (take row ws)))) rest) (keys-views (take row vs))
    ∙ ap (λ (s : SortKey). ordering_then (order (items_sort_key (items_view (take row vs))) s) rest) (keys-views (take row ws))
    ∙ ap (λ (xs : List Datum). ordering_then (order (items_sort_key (items_view (take row vs))) (items_sort_key (items_view (take row ws)))) (order (keys xs) (keys (drop row (drop place es))))) (drop-more ds place row)
    ∙ ap (λ (xs : List Datum). ordering_then (order (items_sort_key (items_view (take row vs))) (items_sort_key (items_view (take row ws)))) (order (keys (drop (place + row) ds)) (keys xs))) (drop-more es place row)

-- where one of the two ends
pub keys-end : (ds es : List Datum) (i : ℕ) → i ≤ length ds → i ≤ length es → min (length ds) (length es) ≤ i
    → nat_cmp (length ds) (length es) ≡ order (keys (drop i ds)) (keys (drop i es))
keys-end ds es i h k m =
    ⊎_elim
    (λ (l : length es < length ds). sym (nat_cmp_is (length ds) (length es) Greater l) ∙ sym (chain-longer sort_key sort_key ds es i (omega (arith, l, m, k)) (omega (arith, l, m, k))))
    (λ (l : length ds ≤ length es). chain-end sort_key sort_key ds es i (omega (arith, h, l, m)) k)
    (cases_lt (length es) (length ds))
