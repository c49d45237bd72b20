-- What each function of integers is. Kinds of all arguments come first, from the left, then the
-- function's own faults.
use Rattle.std.specs.Prelude.{ℕ, ℤ, List, [], ◌∷◌, Result, Ok}
use Rattle.value_data.specs.Datum.{Datum, boolean, integer}
use Rattle.repl_values.specs.Failure.{Failure, ◌>>=◌}
use Rattle.repl_values.specs.Arguments.{integer_in}
use Rattle.core_scalars.specs.IntegerNames.{name_of_integer_function}
use Rattle.core_scalars.specs.Arithmetic.{arithmetic, first_integer}
use Rattle.core_scalars.specs.Comparison.{is_ordered, passes_integer_test}
use Rattle.core_scalars.specs.declared.integer_function.IntegerFunction.{IntegerFunction}

-- the arguments of a function that takes integers alone
abbrev pub integers_in : List ℕ → List Datum → Result (List ℤ) Failure
integers_in function [] = Ok []
integers_in function (d ∷ ds) = integer_in function d
    >>= λ n. (integers_in function ds >>= λ ns. Ok (n ∷ ns))

-- the function at as many integers as it takes
abbrev pub answer : IntegerFunction → List ℤ → Result Datum Failure
answer (IntegerFunction.Arithmetic f) ns = arithmetic f ns >>= λ n. Ok (integer n)
answer (IntegerFunction.Comparison f) ns = Ok (boolean (is_ordered f ns))
answer (IntegerFunction.Test f) ns = Ok (boolean (passes_integer_test f (first_integer ns)))

unfoldable pub integer_meaning : IntegerFunction → List Datum → Result Datum Failure
integer_meaning function args = integers_in (name_of_integer_function function) args
    >>= λ ns. answer function ns
