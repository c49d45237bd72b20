use Rattle.std.proofs.Common.{ap, ◌∙◌}
use Rattle.value_data.specs.Inside.View.{view}
use Rattle.repl_sessions.specs.State.{after_value}
use Rattle.repl_sessions.specs.contracts.sessions.Sessions.{the_view}
use Rattle.repl_sessions.proofs.SeenSessions.{changed-seen, unchanged-seen}
use Rattle.repl_sessions.proofs.sessions.Sessions.note_value.Goals as goal
use Rattle.repl_sessions.proofs.sessions.Sessions.note_value.Goals.{in-Some, in-None}

pub returns : goal.returns
returns c =
    let was = c.self.inside in
    let f = after_value (view c.args.value) in
    elim c.match-get_mut.branch [
      | in-Some w ↦ ap the_view w.self-inside-is
          ∙ changed-seen f c.args.number was.opened was.ids was.live (c.get_mut.follows.lender w.note_value.new.self) w.in-Some.state.now w.note_value.new.self c.args.self.now
          c.self.view_is c.self.invariant.ordered (c.get_mut.follows.holds w.note_value.new.self) w.in-Some.ensures.value w.note_value.ensures
      | in-None w ↦ ap the_view w.self-inside-is
          ∙ unchanged-seen f c.args.number was.opened was.ids was.live c.get_mut.follows.lender-at-none c.args.self.now
          c.self.view_is c.get_mut.follows.holds-at-none w.in-None.ensures.value
    ]
