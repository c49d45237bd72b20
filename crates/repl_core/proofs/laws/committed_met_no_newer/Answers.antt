use Rattle.repl_core.proofs.Commits.{met-none_newer}
use Rattle.repl_core.proofs.laws.committed_met_no_newer.Goals as goal

pub returns : goal.returns
returns c = met-none_newer
