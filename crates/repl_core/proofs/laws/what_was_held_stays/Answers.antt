use Rattle.repl_core.proofs.Points.{held-stays}
use Rattle.repl_core.proofs.laws.what_was_held_stays.Goals as goal

pub returns : goal.returns
returns c = held-stays
