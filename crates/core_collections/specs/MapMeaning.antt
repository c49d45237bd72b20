-- What each function of maps is. Kinds of all arguments come first, from the left, then the
-- function's own faults.
use Rattle.std.specs.Prelude.{ℕ, ◌+◌, ℤ, pos, negsuc, false, nat_le, List, [], ◌∷◌, ◌++◌, length}
use Rattle.std.specs.Prelude.{drop, take, slice_get, unwrap_or, map as each, Option, Some, None}
use Rattle.std.specs.Prelude.{is_some, Result, Ok, Err, if◌then◌else◌}
use Rattle.value_data.specs.Datum.{Datum, nil, boolean, integer, vector, map, Items, no_pairs}
use Rattle.value_data.specs.Listed.{listed, pairs_listed, items_of}
use Rattle.value_data.specs.Keyed.{value_under}
use Rattle.value_data.specs.Put.{put_pairs, without_keys}
use Rattle.repl_values.specs.Failure.{Failure, ◌>>=◌, wrong_argument, out_of_bounds}
use Rattle.repl_values.specs.Failure.{no_value_supplied}
use Rattle.repl_values.specs.Arguments.{argument, at_index}
use Rattle.repl_values.specs.Making.{list_or_nil}
use Rattle.core_collections.specs.MapNames.{name_of_map_function}
use Rattle.core_collections.specs.MapArguments.{by_turns, left_alone, map_pairs_in, places_in}
use Rattle.core_collections.specs.declared.map_function.MapFunction.{MapFunction}

-- pairs put one after another; an odd number faults
abbrev pub made_of : Option Datum → List Datum → Result Datum Failure
made_of (Some k) ds = Err (no_value_supplied k)
made_of None ds = Ok (map (put_pairs no_pairs (by_turns ds)))

unfoldable pub hash_map : List Datum → Result Datum Failure
hash_map ds = made_of (left_alone ds) ds

-- what is no integer has no item
abbrev pub item_at : Datum → Items → Option Datum
item_at (integer n) ds = at_index n (listed ds)
item_at d ds = None

-- by key in a map, by index in a vector; anything else has nothing
abbrev pub found_in : Datum → Datum → Option Datum
found_in (map ps) d = value_under d ps
found_in (vector ds) d = item_at d ds
found_in _ d = None

unfoldable pub get : Datum → Datum → Option Datum → Result Datum Failure
get d key other = Ok (unwrap_or (found_in d key) (unwrap_or other nil))

unfoldable pub contains : Datum → Datum → Result Datum Failure
contains nil key = Ok (boolean false)
contains (map ps) key = Ok (boolean (is_some (value_under key ps)))
contains (vector ds) key = Ok (boolean (is_some (item_at key ds)))
contains d key = Err (wrong_argument (name_of_map_function MapFunction.Contains) d)

-- a place from 0 to the count
abbrev pub place_within : ℤ → ℕ → Option ℕ
place_within (pos n) count = if nat_le n count then Some n else None
place_within (negsuc n) count = None

-- the items with one put at the place, in place of what stood there
abbrev pub put_at : Option ℕ → Datum → List Datum → Result (List Datum) Failure
put_at (Some n) d ds = Ok (take n ds ++ d ∷ drop (n + 1) ds)
put_at None d ds = Err out_of_bounds

-- one after another
abbrev pub with_items : List (ℤ × Datum) → List Datum → Result (List Datum) Failure
with_items [] ds = Ok ds
with_items (p ∷ ps) ds = put_at (place_within p.0 (length ds)) p.1 ds >>= λ next. with_items ps next

-- put one after another: into a map by key, into a vector by index
unfoldable pub assoc : Datum → List (Datum × Datum) → Result Datum Failure
assoc (vector ds) more = places_in (name_of_map_function MapFunction.Assoc) more
    >>= λ ps. (with_items ps (listed ds) >>= λ es. Ok (vector (items_of es)))
assoc d more = map_pairs_in (name_of_map_function MapFunction.Assoc) d
    >>= λ ps. Ok (map (put_pairs ps more))

unfoldable pub dissoc : Datum → List Datum → Result Datum Failure
dissoc nil keys = Ok nil
dissoc (map ps) keys = Ok (map (without_keys ps (items_of keys)))
dissoc d keys = Err (wrong_argument (name_of_map_function MapFunction.Dissoc) d)

unfoldable pub keys : Datum → Result Datum Failure
keys d = map_pairs_in (name_of_map_function MapFunction.Keys) d
    >>= λ ps. Ok (list_or_nil (each (λ p. p.0) (pairs_listed ps)))

unfoldable pub vals : Datum → Result Datum Failure
vals d = map_pairs_in (name_of_map_function MapFunction.Vals) d
    >>= λ ps. Ok (list_or_nil (each (λ p. p.1) (pairs_listed ps)))

unfoldable pub map_meaning : MapFunction → List Datum → Result Datum Failure
map_meaning MapFunction.HashMap args = hash_map args
map_meaning MapFunction.Get args = get (argument 0 args) (argument 1 args) (slice_get args 2)
map_meaning MapFunction.Contains args = contains (argument 0 args) (argument 1 args)
map_meaning MapFunction.Assoc args = assoc (argument 0 args) (by_turns (drop 1 args))
map_meaning MapFunction.Dissoc args = dissoc (argument 0 args) (drop 1 args)
map_meaning MapFunction.Keys args = keys (argument 0 args)
map_meaning MapFunction.Vals args = vals (argument 0 args)
