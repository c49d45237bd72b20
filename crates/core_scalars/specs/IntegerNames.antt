-- The functions, each with its name and the numbers of arguments that it takes.
use Rattle.std.specs.Prelude.{ℕ, List, [], ◌∷◌, ◌++◌, map, Bool, Option, codes}
use Rattle.repl_values.specs.FunctionRows.{FunctionRowData, takes, first_named}
use Rattle.repl_values.specs.declared.function_row.Arity.{Arity}
use Rattle.core_scalars.specs.declared.integer_function.ArithmeticFunction.{ArithmeticFunction}
use Rattle.core_scalars.specs.declared.integer_function.ComparisonFunction.{ComparisonFunction}
use Rattle.core_scalars.specs.declared.integer_function.IntegerTest.{IntegerTest}
use Rattle.core_scalars.specs.declared.integer_function.IntegerFunction.{IntegerFunction}

abbrev pub arithmetic_row : ArithmeticFunction → FunctionRowData
arithmetic_row ArithmeticFunction.Add = record { name = codes "+"; arity = Arity.AnyNumber }
arithmetic_row ArithmeticFunction.Subtract = record { name = codes "-"; arity = Arity.AtLeast 1 }
arithmetic_row ArithmeticFunction.Multiply = record { name = codes "*"; arity = Arity.AnyNumber }
arithmetic_row ArithmeticFunction.Increment = record { name = codes "inc"; arity = Arity.Exactly 1 }
arithmetic_row ArithmeticFunction.Decrement = record { name = codes "dec"; arity = Arity.Exactly 1 }
arithmetic_row ArithmeticFunction.Quotient = record { name = codes "quot"; arity = Arity.Exactly 2 }
arithmetic_row ArithmeticFunction.Remainder = record { name = codes "rem"; arity = Arity.Exactly 2 }
arithmetic_row ArithmeticFunction.Modulo = record { name = codes "mod"; arity = Arity.Exactly 2 }
arithmetic_row ArithmeticFunction.Maximum = record { name = codes "max"; arity = Arity.AtLeast 1 }
arithmetic_row ArithmeticFunction.Minimum = record { name = codes "min"; arity = Arity.AtLeast 1 }

abbrev pub comparison_name : ComparisonFunction → List ℕ
comparison_name ComparisonFunction.Less = codes "<"
comparison_name ComparisonFunction.Greater = codes ">"
comparison_name ComparisonFunction.LessOrEqual = codes "<="
comparison_name ComparisonFunction.GreaterOrEqual = codes ">="

abbrev pub integer_test_name : IntegerTest → List ℕ
integer_test_name IntegerTest.Zero = codes "zero?"
integer_test_name IntegerTest.Positive = codes "pos?"
integer_test_name IntegerTest.Negative = codes "neg?"
integer_test_name IntegerTest.Even = codes "even?"
integer_test_name IntegerTest.Odd = codes "odd?"

abbrev pub integer_row : IntegerFunction → FunctionRowData
integer_row (IntegerFunction.Arithmetic f) = arithmetic_row f
integer_row (IntegerFunction.Comparison f) =
    record { name = comparison_name f; arity = Arity.AtLeast 1 }
integer_row (IntegerFunction.Test f) =
    record { name = integer_test_name f; arity = Arity.Exactly 1 }

abbrev pub arithmetic_functions : List ArithmeticFunction
arithmetic_functions =
    ArithmeticFunction.Add ∷ ArithmeticFunction.Subtract ∷ ArithmeticFunction.Multiply
    ∷ ArithmeticFunction.Increment ∷ ArithmeticFunction.Decrement ∷ ArithmeticFunction.Quotient
    ∷ ArithmeticFunction.Remainder ∷ ArithmeticFunction.Modulo ∷ ArithmeticFunction.Maximum
    ∷ ArithmeticFunction.Minimum ∷ []

abbrev pub comparison_functions : List ComparisonFunction
comparison_functions =
    ComparisonFunction.Less ∷ ComparisonFunction.Greater ∷ ComparisonFunction.LessOrEqual
    ∷ ComparisonFunction.GreaterOrEqual ∷ []

abbrev pub integer_tests : List IntegerTest
integer_tests =
    IntegerTest.Zero ∷ IntegerTest.Positive ∷ IntegerTest.Negative ∷ IntegerTest.Even
    ∷ IntegerTest.Odd ∷ []

abbrev pub integer_functions : List IntegerFunction
integer_functions = map IntegerFunction.Arithmetic arithmetic_functions
    ++ map IntegerFunction.Comparison comparison_functions
    ++ map IntegerFunction.Test integer_tests

abbrev pub integer_function_named : List ℕ → Option IntegerFunction
integer_function_named name = first_named integer_row integer_functions name

abbrev pub name_of_integer_function : IntegerFunction → List ℕ
name_of_integer_function f = (integer_row f).name

abbrev pub fits_arithmetic : ArithmeticFunction → ℕ → Bool
fits_arithmetic f n = takes (arithmetic_row f).arity n

abbrev pub fits_integer_function : IntegerFunction → ℕ → Bool
fits_integer_function f n = takes (integer_row f).arity n
