use Rattle.repl_core.proofs.Points.{reads-of-point}
use Rattle.repl_core.proofs.laws.reads_are_of_their_point.Goals as goal

pub returns : goal.returns
returns c = reads-of-point
