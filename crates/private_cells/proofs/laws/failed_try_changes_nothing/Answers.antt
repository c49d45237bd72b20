use Rattle.private_cells.proofs.Lawful.{try_failed}
use Rattle.private_cells.proofs.laws.failed_try_changes_nothing.Goals as goal

pub returns : goal.returns
returns c = try_failed
