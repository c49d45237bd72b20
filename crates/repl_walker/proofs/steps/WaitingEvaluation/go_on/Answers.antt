use Rattle.std.proofs.Common.{subst}
use Rattle.walker_state.specs.Position.{control_position, wanted_position, IsLater, IsOn}
use Rattle.walker_state.specs.declared.frames.State.{State}
use Rattle.walker_state.proofs.Laters.{later_on}
use Rattle.repl_walker.specs.Steps.{IsOnStop}
use Rattle.repl_walker.specs.declared.steps.AskOrEnd.{AskOrEnd}
use Rattle.repl_walker.proofs.steps.WaitingEvaluation.go_on.Goals as goal

pub returns-in-Asks-clause-later : goal.returns-in-Asks-clause-later
returns-in-Asks-clause-later c =
    let control = c.in_ok-control.control in
    let middle = c.use_answer.new.state in
    let L : State → Type 0 = λ s. IsLater (control_position control middle) (wanted_position c.args.self.wanted s) in
    let later : L c.args.self.state.value = subst L c.deref_mut.ensures.value c.in_ok-control.ensures.later in
    let P : AskOrEnd → Type 0 = λ stop. IsOnStop stop c.go_on.new.state (control_position control c.deref_mut-2.result.now) in
    let on : P (AskOrEnd.Asks c.in-Asks.ask c.in-Asks.wanted) = subst P c.in-Asks.is c.in_ok-end.ensures.on in
    let Q : State → Type 0 = λ s. IsOn (wanted_position c.in-Asks.wanted c.go_on.new.state) (control_position control s) in
    let moved : Q middle = subst Q c.deref_mut-2.ensures.value on in
    later_on (wanted_position c.args.self.wanted c.args.self.state.value) (control_position control middle)
    (wanted_position c.in-Asks.wanted c.go_on.new.state) later moved
