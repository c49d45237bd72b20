-- Values as their data.
use Rattle.std.proofs.Common.{◌≡◌, ℕ, zero, suc, ◌+◌, ◌<◌, ◌≤◌, List, [], ◌∷◌, ◌++◌, None, slice_get, get_or, length, take, add-one, refl, sym, ap, ◌∙◌, arith}
use Rattle.value_data.specs.Datum.{Datum, nil, Pairs, no_pairs, pair}
use Rattle.value_data.specs.Listed.{listed, vector_of_two}
use Rattle.value_data.specs.Same.{size}
use Rattle.value_data.specs.Keyed.{keys_of}
use Rattle.value_data.specs.Inside.Placed.{values_of}
use Rattle.value_data.proofs.Views.{value_views}
use Rattle.repl_values.proofs.Lists.{lists}
use Rattle.repl_values.proofs.Places.{length-keys, length-values}
use Rattle.repl_values.specs.Inside.Rows.{pair_vectors}

-- the key and the value at a place are the vector there
pub pair_vectors-at : (ps : Pairs) (i : ℕ) (k v : Datum) → i < size ps → k ≡ get_or (listed (keys_of ps)) i k → v ≡ get_or (listed (values_of ps)) i v
    → get_or (pair_vectors ps) i nil ≡ vector_of_two (k, v)
pair_vectors-at no_pairs i k v i< key value = absurd (omega (arith, i<))
pair_vectors-at (pair l w ps) zero k v i< key value =
    ap (λ (x : Datum). vector_of_two (x, w)) (sym key) ∙ ap (λ (x : Datum). vector_of_two (k, x)) (sym value)
pair_vectors-at (pair l w ps) (suc i) k v i< key value = pair_vectors-at ps i k v (omega (arith, i<)) key value

pub pair_vectors-past : (ps : Pairs) (i : ℕ) → size ps ≤ i → get_or (pair_vectors ps) i nil ≡ nil
pair_vectors-past no_pairs i past = refl
pair_vectors-past (pair k v ps) zero past = absurd (omega (arith, past))
pair_vectors-past (pair k v ps) (suc i) past = pair_vectors-past ps i (omega (arith, past))

pub length-pair_vectors : (ps : Pairs) → length (pair_vectors ps) ≡ size ps
length-pair_vectors no_pairs = refl
length-pair_vectors (pair k v ps) = omega (arith, length-pair_vectors ps)

-- one vector more, up to the last
pub pair_vectors-next : (ps : Pairs) (i : ℕ) (k v : Datum) → i < size ps → k ≡ get_or (listed (keys_of ps)) i k → v ≡ get_or (listed (values_of ps)) i v
    → take (i + 1) (pair_vectors ps) ≡ take i (pair_vectors ps) ++ vector_of_two (k, v) ∷ []
pair_vectors-next ps i k v i< key value = rw add-one (more ps i i< key value)
  where
    more : (qs : Pairs) (j : ℕ) → j < size qs → k ≡ get_or (listed (keys_of qs)) j k → v ≡ get_or (listed (values_of qs)) j v
        → take (suc j) (pair_vectors qs) ≡ take j (pair_vectors qs) ++ vector_of_two (k, v) ∷ []
    more no_pairs j j< key value = absurd (omega (arith, j<))
    more (pair l w qs) zero j< key value =
        ap (λ (x : Datum). vector_of_two (x, w) ∷ []) (sym key) ∙ ap (λ (x : Datum). vector_of_two (k, x) ∷ []) (sym value)
    more (pair l w qs) (suc j) j< key value = ap (λ (ds : List Datum). vector_of_two (l, w) ∷ ds) (more qs j (omega (arith, j<)) key value)

pub pair_vectors-all : (ps : Pairs) (i : ℕ) → size ps ≤ i → take i (pair_vectors ps) ≡ pair_vectors ps
pair_vectors-all no_pairs zero past = refl
pair_vectors-all no_pairs (suc i) past = refl
pair_vectors-all (pair k v ps) zero past = absurd (omega (arith, past))
pair_vectors-all (pair k v ps) (suc i) past = ap (λ (ds : List Datum). vector_of_two (k, v) ∷ ds) (pair_vectors-all ps i (omega (arith, past)))

-- nil where there is no item
pub item_or_nil-none : (ds : List Datum) (i : ℕ) → slice_get ds i ≡ None → get_or ds i nil ≡ nil
item_or_nil-none [] i none = refl
item_or_nil-none (d ∷ ds) zero none = cc
item_or_nil-none (d ∷ ds) (suc i) none = item_or_nil-none ds i none

pub ruleset seen = (
  value_views,
  lists,
  length-keys,
  length-values,
  length-pair_vectors,
  pair_vectors-at,
  pair_vectors-past,
  pair_vectors-all,
  item_or_nil-none,
)
