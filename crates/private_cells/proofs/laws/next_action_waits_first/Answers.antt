use Rattle.private_cells.proofs.Lawful.{waits_first}
use Rattle.private_cells.proofs.laws.next_action_waits_first.Goals as goal

pub returns : goal.returns
returns c = waits_first
