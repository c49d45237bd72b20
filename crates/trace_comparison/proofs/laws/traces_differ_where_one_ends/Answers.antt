use Rattle.std.proofs.Common.{◌∷◌}
use Rattle.trace_comparison.proofs.Parting.{before-all, ended-behind}
use Rattle.trace_comparison.proofs.laws.traces_differ_where_one_ends.Goals as goal

pub returns : goal.returns
returns c = λ xs y ys. record { equal_before = before-all xs (y ∷ ys); unequal = ended-behind xs y ys }
