use Rattle.repl_sessions.proofs.SeenSessions.{without_session-seen}
use Rattle.repl_sessions.proofs.sessions.Sessions.close.Goals as goal

pub returns : goal.returns
returns c =
    let was = c.self.inside in
    without_session-seen c.args.number was.opened was.ids was.live c.remove.new.self c.args.self.now c.self.view_is c.self.invariant.ordered c.remove.ensures.entries
