-- Arguments by their place, by their kind and beside each other, and items by their index.
use Rattle.std.specs.Prelude.{ℕ, ℤ, pos, negsuc, List, slice_get, slice_index_or, Option, None}
use Rattle.std.specs.Prelude.{drop, Result, Ok, Err}
use Rattle.std.specs.List.{zip}
use Rattle.value_data.specs.Datum.{Datum, nil, integer}
use Rattle.repl_values.specs.Failure.{Failure, wrong_argument}

-- each beside the next
abbrev pub neighbours : {A : Type 0} → List A → List (A × A)
neighbours xs = zip xs (drop 1 xs)

-- an argument by its place
abbrev pub argument : ℕ → List Datum → Datum
argument n args = slice_index_or args n nil

abbrev pub integer_in : List ℕ → Datum → Result ℤ Failure
integer_in function (integer n) = Ok n
integer_in function d = Err (wrong_argument function d)

-- nil where there is no such item
abbrev pub item_or_nil : ℕ → List Datum → Datum
item_or_nil n ds = slice_index_or ds n nil

-- the item at a place from 0 to below the count
abbrev pub at_index : ℤ → List Datum → Option Datum
at_index (pos n) ds = slice_get ds n
at_index (negsuc n) ds = None
