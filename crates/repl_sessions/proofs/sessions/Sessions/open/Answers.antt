use Rattle.std.proofs.Common.{◌∙◌, ap, sym, option_map, rules}
use Rattle.repl_sessions.specs.Named.{NamedSessions}
use Rattle.repl_sessions.specs.Sessions.{is_open}
use Rattle.repl_sessions.specs.Inside.StateView.{state_view}
use Rattle.repl_sessions.proofs.Numbers.{is_open-among, state-found}
use Rattle.repl_sessions.proofs.SeenSessions.{opened-seen, undone-seen}
use Rattle.repl_sessions.proofs.Keeping.{no-next, opened-keeps, refused-keeps}
use Rattle.repl_sessions.proofs.sessions.Sessions.open.Goals as goal

pub invariant_of-self-in-Err : goal.invariant_of-self-in-Err
invariant_of-self-in-Err c =
    let was = c.self.inside in
    refused-keeps was.ids was.opened was.live c.insert-2.new.self was.index c.insert.new.self c.remove.new.self c.text.result
    c.self.invariant c.in-Err.ensures.ordered c.in-Err.ensures.err c.in_ok-insert.ensures.updates c.remove.ensures.updates

pub invariant_of-self-2 : goal.invariant_of-self-2
invariant_of-self-2 c =
    let was = c.self.inside in
    opened-keeps was.ids was.opened c.in_ok-next.next was.live c.insert-2.new.self was.index c.insert.new.self c.text.result c.args.state
    c.self.invariant (search rules) c.text.ensures c.in-Ok.ensures.ordered c.in-Ok.ensures.updates c.in_ok-insert.ensures.updates

pub returns-clause-opened : goal.returns-clause-opened
returns-clause-opened c =
    let was = c.self.inside in
    opened-seen was.opened c.in_ok-next.next was.ids was.live c.insert-2.new.self c.args.state c.args.self.now
    c.self.view_is c.self.invariant.below (search rules) c.in-Ok.ensures.entries

pub returns-clause-unused : goal.returns-clause-unused
returns-clause-unused c =
    let was = c.self.inside in
    sym (ap (λ (s : NamedSessions). is_open s.sessions was.opened) c.self.view_is)
    ∙ is_open-among was.live.entries was.opened ∙ no-next was.ids was.opened was.live was.index c.self.invariant

pub returns-clause-begins : goal.returns-clause-begins
returns-clause-begins c =
    state-found c.insert-2.new.self.entries c.self.inside.opened ∙ ap (option_map state_view) c.in-Ok.ensures.updates.1

pub returns-clause-undone : goal.returns-clause-undone
returns-clause-undone c =
    let was = c.self.inside in
    undone-seen was.opened c.in_ok-next.next was.ids was.live c.insert-2.new.self c.args.state c.args.self.now
    c.self.view_is c.self.invariant.below (search rules) c.in-Ok.ensures.entries
