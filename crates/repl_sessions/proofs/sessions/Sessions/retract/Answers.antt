use Rattle.std.proofs.Common.{rules}
use Rattle.repl_sessions.proofs.SeenSessions.{without_newest_session-seen}
use Rattle.repl_sessions.proofs.sessions.Sessions.retract.Goals as goal

pub returns : goal.returns
returns c =
    let was = c.self.inside in
    without_newest_session-seen c.in-Some.number was.opened was.ids was.live c.remove.new.self c.args.self.now
    c.self.view_is (search rules) c.self.invariant.ordered c.remove.ensures.entries
