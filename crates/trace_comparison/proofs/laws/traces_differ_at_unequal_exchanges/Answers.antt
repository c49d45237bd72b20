use Rattle.std.proofs.Common.{◌∷◌}
use Rattle.trace_comparison.proofs.Parting.{before-alike, unequal-behind}
use Rattle.trace_comparison.proofs.laws.traces_differ_at_unequal_exchanges.Goals as goal

pub returns : goal.returns
returns c =
    λ xs x y ys zs differ.
    record { equal_before = before-alike xs (x ∷ ys) (y ∷ zs); unequal = unequal-behind xs x y ys zs differ }
