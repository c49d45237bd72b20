-- Items and pairs by their places: what is left from a place on, and that one has no more nodes than
-- all.
use Rattle.std.proofs.Common.{◌≡◌, ℕ, zero, suc, ◌+◌, ◌<◌, ◌≤◌, List, [], ◌∷◌, get_or, length, drop, add-one, refl, sym, ap, ◌∙◌, arith}
use Rattle.value_data.specs.Datum.{Datum, Items, no_items, item, Pairs, no_pairs, pair}
use Rattle.value_data.specs.Listed.{listed, items_of, pairs_listed, pairs_of}
use Rattle.value_data.proofs.Size.{nodes, items_nodes, pairs_nodes}
use Rattle.value_data.specs.Same.{size}
use Rattle.value_data.specs.Keyed.{keys_of}
use Rattle.value_data.specs.Inside.Placed.{values_of}

pub items_of-listed : (xs : Items) → items_of (listed xs) ≡ xs
items_of-listed no_items = refl
items_of-listed (item d xs) = ap (item d) (items_of-listed xs)

pub behind-place : (xs : Items) (i : ℕ) (d : Datum) → d ≡ get_or (listed xs) i d → i < length (listed xs)
    → items_of (drop i (listed xs)) ≡ item d (items_of (drop (i + 1) (listed xs)))
behind-place xs i d is h = rw add-one (more (listed xs) i d is h)
  where
    more : (ds : List Datum) (j : ℕ) (e : Datum) → e ≡ get_or ds j e → j < length ds → items_of (drop j ds) ≡ item e (items_of (drop (suc j) ds))
    more [] j e at within = absurd (omega (arith, within))
    more (c ∷ ds) zero e at within = let here : c ≡ e = cc in ap (λ (x : Datum). item x (items_of ds)) here
    more (c ∷ ds) (suc j) e at within = more ds j e at (omega (arith, within))

pub behind-all : (xs : Items) (i : ℕ) → length (listed xs) ≤ i → items_of (drop i (listed xs)) ≡ no_items
behind-all no_items zero h = refl
behind-all no_items (suc i) h = refl
behind-all (item d xs) zero h = absurd (omega (arith, h))
behind-all (item d xs) (suc i) h = behind-all xs i (omega (arith, h))

pub nodes-place : (xs : Items) (i : ℕ) (d : Datum) → d ≡ get_or (listed xs) i d → i < length (listed xs) → nodes d ≤ items_nodes xs
nodes-place no_items i d is h = absurd (omega (arith, h))
nodes-place (item e xs) zero d is h = let same : nodes d ≡ nodes e = ap nodes is in omega (arith, same)
nodes-place (item e xs) (suc i) d is h = omega (arith, nodes-place xs i d is (omega (arith, h)))

-- ---- pairs, of which a row of keys and a row of values are read

pub length-keys : (ps : Pairs) → length (listed (keys_of ps)) ≡ size ps
length-keys no_pairs = refl
length-keys (pair k v ps) = omega (arith, length-keys ps)

pub length-values : (ps : Pairs) → length (listed (values_of ps)) ≡ size ps
length-values no_pairs = refl
length-values (pair k v ps) = omega (arith, length-values ps)

pub pairs_of-listed : (ps : Pairs) → pairs_of (pairs_listed ps) ≡ ps
pairs_of-listed no_pairs = refl
pairs_of-listed (pair k v ps) = ap (pair k v) (pairs_of-listed ps)

-- what stands at a place of a row, where the row is known by another name
pub row-place : (xs ys : Items) (i : ℕ) (d : Datum) → xs ≡ ys → d ≡ get_or (listed xs) i d → d ≡ get_or (listed ys) i d
row-place xs ys i d same is = is ∙ ap (λ (zs : Items). get_or (listed zs) i d) same

pub behind-pair : (ps : Pairs) (i : ℕ) (k v : Datum) → k ≡ get_or (listed (keys_of ps)) i k → v ≡ get_or (listed (values_of ps)) i v → i < size ps
    → pairs_of (drop i (pairs_listed ps)) ≡ pair k v (pairs_of (drop (i + 1) (pairs_listed ps)))
behind-pair ps i k v key value h = rw add-one (more ps i key value h)
  where
    more : (qs : Pairs) (j : ℕ) → k ≡ get_or (listed (keys_of qs)) j k → v ≡ get_or (listed (values_of qs)) j v → j < size qs
        → pairs_of (drop j (pairs_listed qs)) ≡ pair k v (pairs_of (drop (suc j) (pairs_listed qs)))
    more no_pairs j key value within = absurd (omega (arith, within))
    more (pair l w qs) zero key value within =
        ap (λ (x : Datum). pair x w (pairs_of (pairs_listed qs))) (sym key) ∙ ap (λ (x : Datum). pair k x (pairs_of (pairs_listed qs))) (sym value)
    more (pair l w qs) (suc j) key value within = more qs j key value (omega (arith, within))

pub behind-all_pairs : (ps : Pairs) (i : ℕ) → size ps ≤ i → pairs_of (drop i (pairs_listed ps)) ≡ no_pairs
behind-all_pairs no_pairs zero h = refl
behind-all_pairs no_pairs (suc i) h = refl
behind-all_pairs (pair k v ps) zero h = absurd (omega (arith, h))
behind-all_pairs (pair k v ps) (suc i) h = behind-all_pairs ps i (omega (arith, h))

pub nodes-key : (ps : Pairs) (i : ℕ) (k : Datum) → k ≡ get_or (listed (keys_of ps)) i k → i < size ps → nodes k ≤ pairs_nodes ps
nodes-key no_pairs i k is h = absurd (omega (arith, h))
nodes-key (pair l w ps) zero k is h = let same : nodes k ≡ nodes l = ap nodes is in omega (arith, same)
nodes-key (pair l w ps) (suc i) k is h = omega (arith, nodes-key ps i k is (omega (arith, h)))

pub nodes-value : (ps : Pairs) (i : ℕ) (v : Datum) → v ≡ get_or (listed (values_of ps)) i v → i < size ps → nodes v ≤ pairs_nodes ps
nodes-value no_pairs i v is h = absurd (omega (arith, h))
nodes-value (pair l w ps) zero v is h = let same : nodes v ≡ nodes w = ap nodes is in omega (arith, same)
nodes-value (pair l w ps) (suc i) v is h = omega (arith, nodes-value ps i v is (omega (arith, h)))

pub ruleset place_steps = (items_of-listed, behind-place, behind-all, nodes-place, length-keys, length-values, nodes-key, nodes-value)
