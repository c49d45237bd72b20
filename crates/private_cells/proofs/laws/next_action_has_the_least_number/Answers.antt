use Rattle.private_cells.proofs.Lawful.{has_least}
use Rattle.private_cells.proofs.laws.next_action_has_the_least_number.Goals as goal

pub returns : goal.returns
returns c = has_least
