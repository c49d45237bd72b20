-- The functions, each with its name and the numbers of arguments that it takes.
use Rattle.std.specs.Prelude.{ℕ, List, [], ◌∷◌, map, Bool, Option, codes}
use Rattle.repl_values.specs.FunctionRows.{FunctionRowData, takes, first_named}
use Rattle.repl_values.specs.declared.function_row.Arity.{Arity}
use Rattle.core_scalars.specs.declared.predicate_function.ValueTest.{ValueTest}
use Rattle.core_scalars.specs.declared.predicate_function.PredicateFunction.{PredicateFunction}

abbrev pub value_test_name : ValueTest → List ℕ
value_test_name ValueTest.Not = codes "not"
value_test_name ValueTest.Nil = codes "nil?"
value_test_name ValueTest.Some = codes "some?"
value_test_name ValueTest.True = codes "true?"
value_test_name ValueTest.False = codes "false?"
value_test_name ValueTest.Int = codes "int?"
value_test_name ValueTest.String = codes "string?"
value_test_name ValueTest.Keyword = codes "keyword?"
value_test_name ValueTest.Symbol = codes "symbol?"
value_test_name ValueTest.List = codes "list?"
value_test_name ValueTest.Vector = codes "vector?"
value_test_name ValueTest.Map = codes "map?"

abbrev pub predicate_row : PredicateFunction → FunctionRowData
predicate_row PredicateFunction.Equal = record { name = codes "="; arity = Arity.AtLeast 1 }
predicate_row PredicateFunction.NotEqual = record { name = codes "not="; arity = Arity.AtLeast 1 }
predicate_row PredicateFunction.Identity =
    record { name = codes "identity"; arity = Arity.Exactly 1 }
predicate_row (PredicateFunction.Test test) =
    record { name = value_test_name test; arity = Arity.Exactly 1 }

abbrev pub value_tests : List ValueTest
value_tests =
    ValueTest.Not ∷ ValueTest.Nil ∷ ValueTest.Some ∷ ValueTest.True ∷ ValueTest.False
    ∷ ValueTest.Int ∷ ValueTest.String ∷ ValueTest.Keyword ∷ ValueTest.Symbol ∷ ValueTest.List
    ∷ ValueTest.Vector ∷ ValueTest.Map ∷ []

abbrev pub predicate_functions : List PredicateFunction
predicate_functions =
    PredicateFunction.Equal ∷ PredicateFunction.NotEqual ∷ PredicateFunction.Identity
    ∷ map PredicateFunction.Test value_tests

abbrev pub predicate_function_named : List ℕ → Option PredicateFunction
predicate_function_named name = first_named predicate_row predicate_functions name

abbrev pub name_of_predicate_function : PredicateFunction → List ℕ
name_of_predicate_function f = (predicate_row f).name

abbrev pub fits_predicate_function : PredicateFunction → ℕ → Bool
fits_predicate_function f n = takes (predicate_row f).arity n
