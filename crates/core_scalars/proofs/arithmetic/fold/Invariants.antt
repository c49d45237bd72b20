use Rattle.std.proofs.Common.{◌≡◌, drop}
use Rattle.core_scalars.specs.Arithmetic.{left_fold}
use Rattle.core_scalars.specs.Inside.BinaryOperation.{binary_operation}
use Rattle.core_scalars.proofs.arithmetic.fold.Given as goal

abbrev pub invariant-loop-n : goal.invariant-loop-n
invariant-loop-n l = left_fold (binary_operation l.operation) l.total (drop l.n-index l.integers) ≡ left_fold (binary_operation l.operation) l.start l.integers
