use Rattle.private_cells.proofs.Lawful.{runs_first}
use Rattle.private_cells.proofs.laws.begun_action_is_the_first.Goals as goal

pub returns : goal.returns
returns c = runs_first
