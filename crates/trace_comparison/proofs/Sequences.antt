-- Items compared chunk by chunk, and pairs by their two rows.
use Rattle.std.proofs.Common.{◌≡◌, ◌≢◌, ℕ, zero, suc, ◌+◌, ◌≤◌, List, [], ◌∷◌, ◌++◌, length, take, drop, refl, sym, ap, ◌∙◌, arith}
use Rattle.std.proofs.lemmas.List.{take_all}
use Rattle.value_data.specs.Datum.{Datum, Items, Pairs, no_pairs, pair}
use Rattle.value_data.specs.Listed.{listed, items_of}
use Rattle.value_data.specs.Inside.View.{view, views}
use Rattle.value_data.specs.declared.value.Value.{Value}
use Rattle.value_data.specs.Keyed.{keys_of}
use Rattle.value_data.specs.Inside.Placed.{values_of}
use Rattle.value_data.proofs.Nodes.{node_steps}
use Rattle.value_data.proofs.Size.{items_nodes, pairs_nodes}
use Rattle.repl_values.proofs.Places.{items_of-listed}
use Rattle.trace_comparison.proofs.Matching.{place_steps}

views-take : (vs : List Value) (n : ℕ) → views (take n vs) ≡ take n (views vs)
views-take [] zero = refl
views-take [] (suc n) = refl
views-take (v ∷ vs) zero = refl
views-take (v ∷ vs) (suc n) = ap (λ (ds : List Datum). view v ∷ ds) (views-take vs n)

take-less : (ds : List Datum) (m n : ℕ) → m ≤ n → take m (take n ds) ≡ take m ds
take-less [] zero zero h = refl
take-less [] zero (suc n) h = refl
take-less [] (suc m) zero h = refl
take-less [] (suc m) (suc n) h = refl
take-less (d ∷ ds) zero zero h = refl
take-less (d ∷ ds) zero (suc n) h = refl
take-less (d ∷ ds) (suc m) zero h = absurd (omega (arith, h))
take-less (d ∷ ds) (suc m) (suc n) h = ap (λ (es : List Datum). d ∷ es) (take-less ds m n (omega (arith, h)))

-- the first items of a chunk
chunk-part : (vs : List Value) (ds : List Datum) (place row : ℕ) → views vs ≡ take (length vs) (drop place ds) → row ≤ length vs
    → views (take row vs) ≡ take row (drop place ds)
chunk-part vs ds place row e h =
    views-take vs row ∙ ap (take row) e ∙ take-less (drop place ds) row (length vs) h

take-parts : (ds : List Datum) (m n : ℕ) → take (m + n) ds ≡ take m ds ++ take n (drop m ds)
take-parts ds zero n =
    let plain : 0 + n ≡ n = omega arith in
    rw plain refl
take-parts [] (suc m) zero =
    let plain : suc m + 0 ≡ suc m = omega arith in
    rw plain refl
take-parts [] (suc m) (suc n) =
    let plain : suc m + suc n ≡ suc (m + suc n) = omega arith in
    rw plain refl
take-parts (d ∷ ds) (suc m) n =
    let plain : suc m + n ≡ suc (m + n) = omega arith in
    rw plain (ap (λ (es : List Datum). d ∷ es) (take-parts ds m n))

-- one chunk more
pub chunks-next : (vs ws : List Value) (ds es : List Datum) (place row : ℕ)
    → views vs ≡ take (length vs) (drop place ds) → views ws ≡ take (length ws) (drop place es) → row ≤ length vs → row ≤ length ws
    → views (take row vs) ≡ views (take row ws) → take place ds ≡ take place es → take (place + row) ds ≡ take (place + row) es
chunks-next vs ws ds es place row e f h k same before =
    let parts : take row (drop place ds) ≡ take row (drop place es) =
    sym (chunk-part vs ds place row e h) ∙ same ∙ chunk-part ws es place row f k in
    take-parts ds place row
    ∙ ap (λ (xs : List Datum). xs ++ take row (drop place ds)) before
    ∙ ap (λ (xs : List Datum). take place es ++ xs) parts
    ∙ sym (take-parts es place row)

pub chunks-differ : (vs ws : List Value) (xs ys : Items) (place row : ℕ)
    → views vs ≡ take (length vs) (drop place (listed xs)) → views ws ≡ take (length ws) (drop place (listed ys)) → row ≤ length vs → row ≤ length ws
    → (views (take row vs) ≡ views (take row ws) → ⊥) → xs ≡ ys → ⊥
chunks-differ vs ws xs ys place row e f h k differ same =
    differ
    (chunk-part vs (listed xs) place row e h
    ∙ ap (λ (zs : Items). take row (drop place (listed zs))) same
    ∙ sym (chunk-part ws (listed ys) place row f k))

pub unequal-counts : (xs ys : Items) → length (listed xs) ≢ length (listed ys) → xs ≡ ys → ⊥
unequal-counts xs ys differ same = differ (ap (λ (zs : Items). length (listed zs)) same)

pub items-same : (xs ys : Items) (i : ℕ) → length (listed xs) ≤ i → length (listed ys) ≤ i → take i (listed xs) ≡ take i (listed ys) → xs ≡ ys
items-same xs ys i k l same =
    let all : listed xs ≡ listed ys = sym (take_all i (listed xs) k) ∙ same ∙ take_all i (listed ys) l in
    sym (items_of-listed xs) ∙ ap items_of all ∙ items_of-listed ys

-- ---- pairs, of which a row of keys and a row of values are compared

pub pairs-same : (ps qs : Pairs) → keys_of ps ≡ keys_of qs → values_of ps ≡ values_of qs → ps ≡ qs
pairs-same no_pairs no_pairs keys values = refl
pairs-same no_pairs (pair l w qs) keys values = absurd (cc)
pairs-same (pair k v ps) no_pairs keys values = absurd (cc)
pairs-same (pair k v ps) (pair l w qs) keys values =
    let key : k ≡ l = cc in
    let value : v ≡ w = cc in
    let others : keys_of ps ≡ keys_of qs = cc in
    let their : values_of ps ≡ values_of qs = cc in
    rw (key, value, pairs-same ps qs others their) refl

pub keys-nodes : (ps : Pairs) → items_nodes (keys_of ps) ≤ pairs_nodes ps
keys-nodes no_pairs = omega arith
keys-nodes (pair k v ps) = omega (arith, keys-nodes ps)

pub values-nodes : (ps : Pairs) → items_nodes (values_of ps) ≤ pairs_nodes ps
values-nodes no_pairs = omega arith
values-nodes (pair k v ps) = omega (arith, values-nodes ps)

-- what the comparison of values uses
pub ruleset value_steps = (place_steps, node_steps, unequal-counts, items-same, pairs-same, keys-nodes, values-nodes)
