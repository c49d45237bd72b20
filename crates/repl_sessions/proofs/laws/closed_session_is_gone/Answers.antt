use Rattle.repl_sessions.proofs.SessionLaws.{closed-gone}
use Rattle.repl_sessions.proofs.laws.closed_session_is_gone.Goals as goal

pub returns : goal.returns
returns c = λ s n. closed-gone s.live n
