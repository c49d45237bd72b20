use Rattle.repl_sessions.specs.Sessions.{cloned_state}
use Rattle.repl_sessions.proofs.SessionLaws.{clone-elsewhere}
use Rattle.repl_sessions.proofs.laws.clone_leaves_the_others.Goals as goal

pub returns : goal.returns
returns c = λ s original m ne. clone-elsewhere s.live (record { number = s.opened; state = cloned_state s original }) m ne
