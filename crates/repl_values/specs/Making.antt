-- What is made of items.
use Rattle.std.specs.Prelude.{List, [], ◌∷◌}
use Rattle.value_data.specs.Datum.{Datum, nil, list, vector}
use Rattle.value_data.specs.Listed.{items_of}

abbrev pub list_of : List Datum → Datum
list_of ds = list (items_of ds)

abbrev pub vector_of : List Datum → Datum
vector_of ds = vector (items_of ds)

-- a list, but nil for an empty one
abbrev pub list_or_nil : List Datum → Datum
list_or_nil [] = nil
list_or_nil (d ∷ ds) = list_of (d ∷ ds)
