-- The functions of two integers that are folded from the left.
use Rattle.std.specs.Prelude.{ℤ, Result}
use Rattle.repl_values.specs.Failure.{Failure}
use Rattle.core_scalars.specs.Arithmetic.{add, subtract, multiply, maximum, minimum}
use Rattle.core_scalars.specs.declared.arithmetic.BinaryOperation.{BinaryOperation}

abbrev pub binary_operation : BinaryOperation → ℤ → ℤ → Result ℤ Failure
binary_operation BinaryOperation.Add = add
binary_operation BinaryOperation.Subtract = subtract
binary_operation BinaryOperation.Multiply = multiply
binary_operation BinaryOperation.Maximum = maximum
binary_operation BinaryOperation.Minimum = minimum
