use Rattle.std.specs.Arc.{arc_str_bytes}
use Rattle.repl_sessions.specs.State.{in_namespace}
use Rattle.repl_sessions.proofs.SeenSessions.{changed-seen, unchanged-seen}
use Rattle.repl_sessions.proofs.sessions.Sessions.enter.Goals as goal

pub returns-in_default : goal.returns-in_default
returns-in_default c =
    let was = c.self.inside in
    unchanged-seen (in_namespace (arc_str_bytes c.args.namespace)) c.args.number was.opened was.ids was.live c.get_mut.follows.lender-at-none c.args.self.now
    c.self.view_is c.get_mut.follows.holds-at-none c.in_default.ensures.value

pub returns : goal.returns
returns c =
    let was = c.self.inside in
    changed-seen (in_namespace (arc_str_bytes c.args.namespace)) c.args.number was.opened was.ids was.live (c.get_mut.follows.lender c.enter.new.self)
    c.in-Some.state.now c.enter.new.self c.args.self.now
    c.self.view_is c.self.invariant.ordered (c.get_mut.follows.holds c.enter.new.self) c.in-Some.ensures.value c.enter.ensures
