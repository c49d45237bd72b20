-- Vectors and maps of values that were evaluated (the Clojure reference, Data Structures).
use Rattle.std.specs.Prelude.{ℕ, zero, suc, List, [], ◌∷◌, Option, Some, None, zip}
use Rattle.std.specs.Option.{option_and_then}
use Rattle.value_data.specs.Datum.{Datum, vector, map}
use Rattle.value_data.specs.Listed.{items_of, pairs_of}
use Rattle.value_data.specs.Repeats.{first_repeat}
use Rattle.repl_values.specs.Failure as failures
use Rattle.core_functions.specs.ApplyOutcome as outcomes
use Rattle.core_functions.specs.ApplyOutcome.{ApplyOutcome, limited_outcome}
use Rattle.evaluation_rules.specs.Doing.{Part, pure_part, fails}

abbrev pub without_text : ApplyOutcome → Part Datum
without_text (outcomes.gives d text) = pure_part d
without_text (outcomes.fails f) = fails f

-- the value, where it is not too large
abbrev pub within_limits : Datum → Part Datum
within_limits d = without_text (limited_outcome d)

abbrev pub vector_value : List Datum → Part Datum
vector_value vs = within_limits (vector (items_of vs))

abbrev pub keys_in : List Datum → List Datum
keys_in [] = []
keys_in (k ∷ []) = []
keys_in (k ∷ v ∷ ds) = k ∷ keys_in ds

abbrev pub values_in : List Datum → List Datum
values_in [] = []
values_in (k ∷ []) = []
values_in (k ∷ v ∷ ds) = v ∷ values_in ds

abbrev pub form_at : List Datum → ℕ → Option Datum
form_at [] n = None
form_at (d ∷ ds) zero = Some d
form_at (d ∷ ds) (suc n) = form_at ds n

-- the first key to which an equal one stands before
abbrev pub repeated_key : List Datum → Option Datum
repeated_key keys = option_and_then (form_at keys) (first_repeat (items_of keys))

abbrev pub distinct_or : Option Datum → Part Datum → Part Datum
distinct_or (Some key) part = fails (failures.duplicate_key key)
distinct_or None part = part

abbrev pub map_value : List Datum → Part Datum
map_value ds = distinct_or (repeated_key (keys_in ds))
    (within_limits (map (pairs_of (zip (keys_in ds) (values_in ds)))))
