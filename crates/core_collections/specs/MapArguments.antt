-- The arguments of the functions of maps.
use Rattle.std.specs.Prelude.{ℕ, ℤ, List, [], ◌∷◌, Option, Some, None, Result, Ok, Err}
use Rattle.value_data.specs.Datum.{Datum, nil, map, Pairs, no_pairs}
use Rattle.repl_values.specs.Failure.{Failure, ◌>>=◌, wrong_argument}
use Rattle.repl_values.specs.Arguments.{integer_in}

-- keys and their values by turns; a last one alone is left out
abbrev pub by_turns : List Datum → List (Datum × Datum)
by_turns [] = []
by_turns (k ∷ []) = []
by_turns (k ∷ v ∷ ds) = (k, v) ∷ by_turns ds

-- the last of an odd number
abbrev pub left_alone : List Datum → Option Datum
left_alone [] = None
left_alone (k ∷ []) = Some k
left_alone (k ∷ v ∷ ds) = left_alone ds

-- the pairs of a map; nil stands for an empty one
abbrev pub map_pairs_in : List ℕ → Datum → Result Pairs Failure
map_pairs_in function nil = Ok no_pairs
map_pairs_in function (map ps) = Ok ps
map_pairs_in function d = Err (wrong_argument function d)

-- what is put into a vector: each value by its index
abbrev pub places_in : List ℕ → List (Datum × Datum) → Result (List (ℤ × Datum)) Failure
places_in function [] = Ok []
places_in function (p ∷ ps) = integer_in function p.0
    >>= λ n. (places_in function ps >>= λ rest. Ok ((n, p.1) ∷ rest))
