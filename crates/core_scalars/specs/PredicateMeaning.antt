-- What each predicate is. None of them has a fault.
use Rattle.std.specs.Prelude.{Bool, not, List, Result, Ok}
use Rattle.std.specs.List.{list_all}
use Rattle.value_data.specs.Datum.{Datum, boolean}
use Rattle.value_data.specs.Same.{same}
use Rattle.repl_values.specs.Failure.{Failure}
use Rattle.repl_values.specs.Arguments.{argument, neighbours}
use Rattle.core_scalars.specs.Kinds.{passes_value_test}
use Rattle.core_scalars.specs.declared.predicate_function.PredicateFunction.{PredicateFunction}

unfoldable pub each_equals_the_next : List Datum → Bool
each_equals_the_next ds = list_all (λ p. same p.0 p.1) (neighbours ds)

unfoldable pub predicate_meaning : PredicateFunction → List Datum → Result Datum Failure
predicate_meaning PredicateFunction.Equal args = Ok (boolean (each_equals_the_next args))
predicate_meaning PredicateFunction.NotEqual args = Ok (boolean (not (each_equals_the_next args)))
predicate_meaning PredicateFunction.Identity args = Ok (argument 0 args)
predicate_meaning (PredicateFunction.Test test) args =
    Ok (boolean (passes_value_test test (argument 0 args)))
