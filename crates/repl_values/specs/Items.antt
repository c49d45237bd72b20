-- The items of a value.
use Rattle.std.specs.Prelude.{ℕ, List, [], map as each, Result, Ok, Err}
use Rattle.value_data.specs.Datum.{Datum, nil, list, vector, map}
use Rattle.value_data.specs.Listed.{listed, pairs_listed, vector_of_two}
use Rattle.repl_values.specs.Failure.{Failure, wrong_argument}

-- of nil none, of a list or a vector its own, of a map its pairs as vectors of two
abbrev pub items_in : List ℕ → Datum → Result (List Datum) Failure
items_in function nil = Ok []
items_in function (list ds) = Ok (listed ds)
items_in function (vector ds) = Ok (listed ds)
items_in function (map ps) = Ok (each vector_of_two (pairs_listed ps))
items_in function d = Err (wrong_argument function d)

-- of what is reached by index: a list, a vector or nil
abbrev pub row_in : List ℕ → Datum → Result (List Datum) Failure
row_in function nil = Ok []
row_in function (list ds) = Ok (listed ds)
row_in function (vector ds) = Ok (listed ds)
row_in function d = Err (wrong_argument function d)
