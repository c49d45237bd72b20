use Rattle.repl_sessions.proofs.SessionLaws.{change-elsewhere}
use Rattle.repl_sessions.proofs.laws.change_leaves_the_others.Goals as goal

pub returns : goal.returns
returns c = λ s n m f ne. change-elsewhere f s.live n m ne
