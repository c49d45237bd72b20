use Rattle.repl_core.proofs.Commits.{run-newest}
use Rattle.repl_core.proofs.laws.newest_is_the_fold_of_what_was_committed.Goals as goal

pub returns : goal.returns
returns c = run-newest
