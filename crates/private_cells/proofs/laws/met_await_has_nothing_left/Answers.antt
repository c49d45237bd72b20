use Rattle.private_cells.proofs.Lawful.{met}
use Rattle.private_cells.proofs.laws.met_await_has_nothing_left.Goals as goal

pub returns : goal.returns
returns c = met
