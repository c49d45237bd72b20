-- Arguments that are pairs.
use Rattle.std.specs.Prelude.{ℕ, List, [], ◌∷◌, Option, Some, None, ok_or, Result, Ok}
use Rattle.value_data.specs.Datum.{Datum, vector, no_items, item}
use Rattle.repl_values.specs.Failure.{Failure, ◌>>=◌, wrong_argument}

-- a vector of two is a pair
abbrev pub as_pair : Datum → Option (Datum × Datum)
as_pair (vector (item k (item v no_items))) = Some (k, v)
as_pair d = None

abbrev pub pair_in : List ℕ → Datum → Result (Datum × Datum) Failure
pair_in function d = ok_or (as_pair d) (wrong_argument function d)

abbrev pub pairs_in : List ℕ → List Datum → Result (List (Datum × Datum)) Failure
pairs_in function [] = Ok []
pairs_in function (d ∷ ds) = pair_in function d
    >>= λ p. (pairs_in function ds >>= λ ps. Ok (p ∷ ps))
