use Rattle.repl_core.proofs.SharedBounds.{bounds-fixed}
use Rattle.repl_core.proofs.laws.shared_bounds_are_fixed.Goals as goal

pub returns : goal.returns
returns c = bounds-fixed
