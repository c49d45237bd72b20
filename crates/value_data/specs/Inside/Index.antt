-- What a map's index tells: the places of its pairs in the order of their keys.
use Rattle.std.specs.Prelude.{◌≡◌, ℕ, zero, suc, ◌+◌, ◌<◌, ◌≤◌, List, length, slice_index_or}
use Rattle.std.specs.Prelude.{map as each, None}
use Rattle.std.specs.List.{All, Contains}
use Rattle.std.specs.declared.cmp.Ordering.TheVariants.{Less}
use Rattle.value_data.specs.Datum.{Datum, Pairs, no_pairs, pair}
use Rattle.value_data.specs.Same.{size}
use Rattle.value_data.specs.Inside.Order.{SortKey, number, both, order, sort_key, chain}
use Rattle.value_data.specs.Inside.Placed.{first_place}

-- what the key at a place is compared by
abbrev pub key_at : Pairs → ℕ → SortKey
key_at no_pairs n = number 0
key_at (pair k v ps) zero = sort_key k
key_at (pair k v ps) (suc n) = key_at ps n

-- as many places as pairs, each below their number
pub record ArePlaces (places : List ℕ) (count : ℕ) : Type 0 where
  pub counted : length places ≡ count
  pub within : All (λ n. n < count) places

-- the key at each place is less than that at the next
abbrev pub Ascend : Pairs → List ℕ → Type 0
Ascend ps places = (i : ℕ) → i + 1 < length places
    → order (key_at ps (slice_index_or places i 0)) (key_at ps (slice_index_or places (i + 1) 0))
    ≡ Less

-- all places, and their keys ascend
pub record Indexes (places : List ℕ) (ps : Pairs) : Type 0 where
  pub counted : length places ≡ size ps
  pub within : All (λ n. n < size ps) places
  pub complete : (n : ℕ) → n < size ps → Contains places n
  pub ascending : (i j : ℕ) → i < j → j < length places
      → order (key_at ps (slice_index_or places i 0)) (key_at ps (slice_index_or places j 0)) ≡ Less

-- this place stands at this rank
abbrev pub IsRanked : ℕ → ℕ → List ℕ → Type 0
IsRanked rank place places = (rank < length places) × (place ≡ slice_index_or places rank 0)

-- No key is equal, and the place of this key belongs at the rank.
pub record Belongs (rank : ℕ) (places : List ℕ) (ps : Pairs) (d : Datum) : Type 0 where
  pub absent : first_place ps d ≡ None
  pub in_range : rank ≤ length places
  pub before : (i : ℕ) → i < rank → order (key_at ps (slice_index_or places i 0)) (sort_key d)
      ≡ Less
  pub behind : (i : ℕ) → rank ≤ i → i < length places
      → order (sort_key d) (key_at ps (slice_index_or places i 0)) ≡ Less

-- what the pair at a place is compared by
abbrev pub row_at : Pairs → ℕ → SortKey
row_at no_pairs n = number 0
row_at (pair k v ps) zero = both (sort_key k) (sort_key v)
row_at (pair k v ps) (suc n) = row_at ps n

abbrev pub rows_at : Pairs → List ℕ → SortKey
rows_at ps places = chain (each (row_at ps) places)
