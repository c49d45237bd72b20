use Rattle.private_cells.proofs.Lawful.{try_kept}
use Rattle.private_cells.proofs.laws.try_is_kept.Goals as goal

pub returns : goal.returns
returns c = try_kept
