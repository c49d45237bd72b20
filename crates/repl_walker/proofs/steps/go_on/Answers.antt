use Rattle.std.proofs.Common.{refl, subst, ◌∙◌, ◌≡◌}
use Rattle.repl_walker.specs.Steps.{leg_tree, IsOnLeg}
use Rattle.repl_walker.specs.declared.steps.Leg.{Leg}
use Rattle.walker_state.specs.Pending.{tree}
use Rattle.walker_state.specs.Position.{control_position}
use Rattle.walker_state.proofs.Laters.{on_itself, on_asked, on_entered, entered_less}
use Rattle.repl_walker.proofs.steps.go_on.Goals as goal

pub loop-end-init : goal.loop-end-init
loop-end-init c = record { meaning = refl; on = on_itself _ }

pub returns-in-Asks-clause-meaning : goal.returns-in-Asks-clause-meaning
returns-in-Asks-clause-meaning c =
    let P : Leg → Type 0 = λ leg. leg_tree leg c.run_leg.new.state ≡ tree c.args.control c.args.state.now in
    subst P c.in-Asks.is (c.in_ok-end.ensures.meaning ∙ c.loop-end.invariant.meaning)

pub returns-in-Asks-clause-on : goal.returns-in-Asks-clause-on
returns-in-Asks-clause-on c =
    let P : Leg → Type 0 = λ leg. IsOnLeg leg c.run_leg.new.state (control_position c.loop-end.control c.loop-end.state) in
    let on : P (Leg.Asks c.in-Asks.ask c.in-Asks.wanted) = subst P c.in-Asks.is c.in_ok-end.ensures.on in
    on_asked _ _ _ _ _ c.loop-end.invariant.on on.0 on.1 on.2

pub loop-end-preserved : goal.loop-end-preserved
loop-end-preserved c =
    let e = c.in-Enters in
    let P : Leg → Type 0 = λ leg. IsOnLeg leg c.run_leg.new.state (control_position c.loop-end.control c.loop-end.state) in
    let on : P (Leg.Enters e.function e.values e.room) = subst P e.is c.in_ok-end.ensures.on in
    let Q : Leg → Type 0 = λ leg. leg_tree leg c.run_leg.new.state ≡ tree c.loop-end.control c.loop-end.state in
    let meaning : Q (Leg.Enters e.function e.values e.room) = subst Q e.is c.in_ok-end.ensures.meaning in
    let entered = c.in_ok-control-in-Enters in
    record {
      meaning = entered.ensures.meaning ∙ meaning ∙ c.loop-end.invariant.meaning;
      on = on_entered _ _ entered.control c.enter.new.state c.run_leg.new.state c.loop-end.invariant.on on.0 on.1 entered.ensures.around entered.ensures.calls;
    }

pub loop-end-smaller : goal.loop-end-smaller
loop-end-smaller c =
    let e = c.in-Enters in
    let P : Leg → Type 0 = λ leg. IsOnLeg leg c.run_leg.new.state (control_position c.loop-end.control c.loop-end.state) in
    let on : P (Leg.Enters e.function e.values e.room) = subst P e.is c.in_ok-end.ensures.on in
    entered_less _ _ _ c.in_ok-control-in-Enters.ensures.calls on.1
