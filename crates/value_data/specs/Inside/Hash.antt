-- A number of 64 bits for each value, equal for equal values.
use Rattle.std.specs.Prelude.{ℕ, ◌+◌, ◌*◌, ◌%◌, ◌^◌, max, length, take, List, [], ◌∷◌, if◌then◌else◌}
use Rattle.std.specs.Prelude.{unsigned_abs}
use Rattle.value_data.specs.Datum.{OwnerData, shared, tenant, Datum, nil, boolean, integer, string}
use Rattle.value_data.specs.Datum.{keyword, symbol, list, vector, map, ref, atom, agent, var, fault}
use Rattle.value_data.specs.Datum.{Items, no_items, item, Pairs, no_pairs, pair}
use Rattle.value_data.specs.Same.{size}

-- a hash that goes on with one more word
unfoldable pub mixed : ℕ → ℕ → ℕ
mixed hash word = ((hash * 0x9E3779B97F4A7C15) % 2 ^ 64 + word) % 2 ^ 64

unfoldable pub salted : ℕ → ℕ → ℕ
salted salt word = (word * salt) % 2 ^ 64

abbrev pub mixed_text : ℕ → List ℕ → ℕ
mixed_text hash [] = hash
mixed_text hash (b ∷ bs) = mixed_text (mixed hash b) bs

-- Of a long text only the first bytes count, and their number. Equality looks at all.
abbrev pub text_hash : ℕ → List ℕ → ℕ
text_hash hash bs = mixed (mixed_text hash (take 64 bs)) (length bs)

abbrev pub owner_hash : OwnerData → ℕ
owner_hash shared = mixed 10 0
owner_hash (tenant t) = mixed 11 t

abbrev pub pair_hash : ℕ → ℕ → ℕ
pair_hash key value = mixed (mixed 9 key) value

-- A list hashes as a vector. A map's
-- hash knows its size and, in four orders of the pairs' hashes, the greatest: so its order is lost.
abbrev mutual
  pub hash : Datum → ℕ
  hash nil = mixed 1 0
  hash (boolean b) = mixed 2 (if b then 1 else 0)
  hash (integer n) = mixed 3 (unsigned_abs n)
  hash (string s) = text_hash 4 s
  hash (keyword s) = text_hash 5 s
  hash (symbol s) = text_hash 6 s
  hash (list ds) = items_hash 7 ds
  hash (vector ds) = items_hash 7 ds
  hash (map ps) =
      mixed (mixed (mixed (mixed (mixed 8 (size ps)) (peak 0xD6E8FEB86659FD93 ps))
      (peak 0x2917014799A6026D ps))
      (peak 0xBF58476D1CE4E5B9 ps)) (peak 0x40A7B892E31B1A47 ps)
  hash (ref owner number) = mixed (owner_hash owner) number
  hash (atom number) = mixed 12 number
  hash (agent number) = mixed 13 number
  hash (var space name) = text_hash (text_hash 14 space) name
  hash (fault class text) = text_hash (text_hash 15 class) text

  pub items_hash : ℕ → Items → ℕ
  items_hash before no_items = before
  items_hash before (item d ds) = items_hash (mixed before (hash d)) ds

  -- the greatest of the pairs' hashes, each times the salt
  pub peak : ℕ → Pairs → ℕ
  peak salt no_pairs = 0
  peak salt (pair k v ps) = max (salted salt (pair_hash (hash k) (hash v))) (peak salt ps)

-- what a number that stands before the items is multiplied by in their hash
unfoldable pub factor : List Datum → ℕ
factor [] = 1
factor (d ∷ ds) = (factor ds * 0x9E3779B97F4A7C15) % 2 ^ 64

-- what the items alone add to it
unfoldable pub addend : List Datum → ℕ
addend [] = 0
addend (d ∷ ds) = ((hash d * factor ds) % 2 ^ 64 + addend ds) % 2 ^ 64
