-- Comparisons of neighbours, and tests of one integer.
use Rattle.std.specs.Prelude.{ℤ, pos, int_lt, int_le, int_rem, Bool, not, List}
use Rattle.std.specs.List.{list_all}
use Rattle.repl_values.specs.Arguments.{neighbours}
use Rattle.core_scalars.specs.Arithmetic.{is_zero}
use Rattle.core_scalars.specs.declared.integer_function.ComparisonFunction.{ComparisonFunction}
use Rattle.core_scalars.specs.declared.integer_function.IntegerTest.{IntegerTest}

abbrev pub compare : ComparisonFunction → ℤ → ℤ → Bool
compare ComparisonFunction.Less m n = int_lt m n
compare ComparisonFunction.Greater m n = int_lt n m
compare ComparisonFunction.LessOrEqual m n = int_le m n
compare ComparisonFunction.GreaterOrEqual m n = int_le n m

abbrev pub is_ordered : ComparisonFunction → List ℤ → Bool
is_ordered comparison ns = list_all (λ p. compare comparison p.0 p.1) (neighbours ns)

-- 2 divides it
abbrev pub is_even : ℤ → Bool
is_even n = is_zero (int_rem n (pos 2))

abbrev pub passes_integer_test : IntegerTest → ℤ → Bool
passes_integer_test IntegerTest.Zero n = is_zero n
passes_integer_test IntegerTest.Positive n = int_lt (pos 0) n
passes_integer_test IntegerTest.Negative n = int_lt n (pos 0)
passes_integer_test IntegerTest.Even n = is_even n
passes_integer_test IntegerTest.Odd n = not (is_even n)
