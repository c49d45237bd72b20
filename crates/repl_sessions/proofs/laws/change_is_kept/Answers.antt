use Rattle.repl_sessions.proofs.SessionLaws.{change-kept}
use Rattle.repl_sessions.proofs.laws.change_is_kept.Goals as goal

pub returns : goal.returns
returns c = λ s n f. change-kept f s.live n
