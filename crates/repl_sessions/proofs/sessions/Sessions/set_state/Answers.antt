use Rattle.std.proofs.Common.{ap, ◌∙◌}
use Rattle.repl_sessions.specs.Inside.StateView.{state_view}
use Rattle.repl_sessions.specs.State.{StateData}
use Rattle.repl_sessions.specs.contracts.sessions.Sessions.{the_view}
use Rattle.repl_sessions.proofs.SeenSessions.{changed-seen, unchanged-seen}
use Rattle.repl_sessions.proofs.sessions.Sessions.set_state.Goals as goal
use Rattle.repl_sessions.proofs.sessions.Sessions.set_state.Goals.{in-Some, in-None}

pub returns : goal.returns
returns c =
    let was = c.self.inside in
    let f : StateData → StateData = λ _. state_view c.args.state in
    elim c.match-get_mut.branch [
      | in-Some w ↦ ap the_view w.self-inside-is
          ∙ changed-seen f c.args.number was.opened was.ids was.live (c.get_mut.follows.lender w.give_way.new.self) w.in-Some.place.now w.give_way.new.self c.args.self.now
          c.self.view_is c.self.invariant.ordered (c.get_mut.follows.holds w.give_way.new.self) w.in-Some.ensures.value (ap state_view w.give_way.ensures)
      | in-None w ↦ ap the_view w.self-inside-is
          ∙ unchanged-seen f c.args.number was.opened was.ids was.live c.get_mut.follows.lender-at-none c.args.self.now
          c.self.view_is c.get_mut.follows.holds-at-none w.in-None.ensures.value
    ]
