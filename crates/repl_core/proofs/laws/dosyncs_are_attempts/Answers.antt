use Rattle.repl_core.proofs.DosyncSettings.{dosyncs-are-attempts}
use Rattle.repl_core.proofs.laws.dosyncs_are_attempts.Goals as goal

pub returns : goal.returns
returns c = dosyncs-are-attempts
