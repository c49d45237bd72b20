use Rattle.repl_sessions.proofs.SessionLaws.{close-elsewhere}
use Rattle.repl_sessions.proofs.laws.close_leaves_the_others.Goals as goal

pub returns : goal.returns
returns c = λ s n m ne. close-elsewhere s.live n m ne
