use Rattle.repl_core.proofs.AttemptsInRuns.{attempts-agree}
use Rattle.repl_core.proofs.laws.attempts_in_runs_agree.Goals as goal

pub returns : goal.returns
returns c = attempts-agree
