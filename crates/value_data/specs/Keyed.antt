-- Pairs by their keys. A key that stands comes first in each comparison with one that is looked
-- for.
use Rattle.std.specs.Prelude.{ℕ, zero, suc, Bool, false, ◌||◌, Option, Some, None}
use Rattle.std.specs.Prelude.{if◌then◌else◌}
use Rattle.value_data.specs.Datum.{Datum, Items, no_items, item, Pairs, no_pairs, pair}
use Rattle.value_data.specs.Same.{same}

-- the value of the first key that is equal
abbrev pub value_under : Datum → Pairs → Option Datum
value_under d no_pairs = None
value_under d (pair k v ps) = if same k d then Some v else value_under d ps

-- whether a key is equal
abbrev pub has_key : Pairs → Datum → Bool
has_key no_pairs d = false
has_key (pair k v ps) d = same k d || has_key ps d

abbrev pub keys_of : Pairs → Items
keys_of no_pairs = no_items
keys_of (pair k v ps) = item k (keys_of ps)

-- the value at a place
abbrev pub nth_value : Pairs → ℕ → Option Datum
nth_value no_pairs n = None
nth_value (pair k v ps) zero = Some v
nth_value (pair k v ps) (suc n) = nth_value ps n

abbrev pub value_at_place : Pairs → Option ℕ → Option Datum
value_at_place ps None = None
value_at_place ps (Some n) = nth_value ps n

-- the pairs and one more
abbrev pub behind_all : Pairs → Datum → Datum → Pairs
behind_all no_pairs key value = pair key value no_pairs
behind_all (pair k v ps) key value = pair k v (behind_all ps key value)
