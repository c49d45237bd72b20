-- Pairs by the places of their keys. Contracts of private functions speak of it.
use Rattle.std.specs.Prelude.{◌≡◌, ℕ, zero, suc, Bool, true, not, ◌&&◌, Option, Some, None}
use Rattle.std.specs.Prelude.{option_map, if◌then◌else◌}
use Rattle.value_data.specs.Datum.{Datum, Items, no_items, item, Pairs, no_pairs, pair}
use Rattle.value_data.specs.Same.{same}
use Rattle.value_data.specs.Keyed.{has_key}

-- the place of the first key that is equal
abbrev pub first_place : Pairs → Datum → Option ℕ
first_place no_pairs d = None
first_place (pair k v ps) d = if same k d then Some 0
    else option_map (λ n. suc n) (first_place ps d)

-- no key is equal to a later one
abbrev pub are_distinct : Pairs → Bool
are_distinct no_pairs = true
are_distinct (pair k v ps) = not (has_key ps k) && are_distinct ps

-- the key and the value that stand at a place
abbrev pub StandsAt : Pairs → ℕ → Datum → Datum → Type 0
StandsAt no_pairs n key value = ⊥
StandsAt (pair k v ps) zero key value = (k ≡ key) × (v ≡ value)
StandsAt (pair k v ps) (suc n) key value = StandsAt ps n key value

-- the pairs without that at the place
abbrev pub without_at : ℕ → Pairs → Pairs
without_at n no_pairs = no_pairs
without_at zero (pair k v ps) = ps
without_at (suc n) (pair k v ps) = pair k v (without_at n ps)

-- the pairs with another value at the place
abbrev pub with_value : ℕ → Datum → Pairs → Pairs
with_value n value no_pairs = no_pairs
with_value zero value (pair k v ps) = pair k value ps
with_value (suc n) value (pair k v ps) = pair k v (with_value n value ps)

-- the values in the order of their keys
abbrev pub values_of : Pairs → Items
values_of no_pairs = no_items
values_of (pair k v ps) = item v (values_of ps)
