use Rattle.std.proofs.Common.{◌∙◌, sym, ap, subst, option_map, true, false}
use Rattle.server_rules.specs.Deeds.{start_of}
use Rattle.server_rules.specs.Plan.{Outcome, StepAnswer}
use Rattle.server_rules.specs.Starting.{interrupted_in}
use Rattle.tenant_parts.specs.View.{actor_view, hand_view, run_view}
use Rattle.tenant_world.specs.Answers.{start_answer_view}
use Rattle.tenant_asks.specs.Acting.{AcceptsOutcome, is_accepted}
use Rattle.tenant_asks.proofs.Remembering.{acted-interrupted}
use Rattle.tenant_world.proofs.Remembering.{declined-memory}
use Rattle.tenant_world.proofs.Begins.{none-mapped, start-between}
use Rattle.tenant_world.proofs.starting.start.Goals as goal

pub returns-in_err-interrupt-clause-declined : goal.returns-in_err-interrupt-clause-declined
returns-in_err-interrupt-clause-declined c = λ g t q right tries r.
    declined-memory g t q _ _ c.from_residual.result c.from_residual.ensures.1
    (c.in_err-interrupt.ensures.stays g t q r)

pub returns-then-state-clause-acted : goal.returns-then-state-clause-acted
returns-then-state-clause-acted c = λ g t q right tries r.
    let a = c.args.actor in
    let actor = actor_view c.args.state.now in
    let k = hand_view c.in-Some.hand in
    let memory = c.interrupt.new.memory in
    let there = ap (option_map hand_view) c.in-Some.is in
    let between = none-mapped run_view c.in-Some.hand.running
    (sym c.is_some.ensures ∙ c.if-is_some.false) in
    let answer = start_answer_view c.interrupted.result.given in
    let P : Outcome → Type 0 = λ x. AcceptsOutcome g t a q x memory actor answer in
    let Q : StepAnswer → Type 0 = λ x. AcceptsOutcome g t a q (interrupted_in a k q) memory actor x in
    subst P (start-between g a actor q actor.hand k true there between c.if-state.true)
    (subst Q (sym (ap start_answer_view c.interrupted.ensures.given))
    (acted-interrupted g t memory a actor k q (c.in_ok-interrupt.ensures.told g t q r)))

pub returns-in_err-interrupt-clause-no_memory : goal.returns-in_err-interrupt-clause-no_memory
returns-in_err-interrupt-clause-no_memory c = λ g t q r none.
    let actor = actor_view c.args.state.now in
    let k = hand_view c.in-Some.hand in
    let between = none-mapped run_view c.in-Some.hand.running
    (sym c.is_some.ensures ∙ c.if-is_some.false) in
    sym (ap is_accepted (start-between g c.args.actor actor q actor.hand k true
    (ap (option_map hand_view) c.in-Some.is) between c.if-state.true))

pub returns-in_default-clause-no_memory : goal.returns-in_default-clause-no_memory
returns-in_default-clause-no_memory c = λ g t q r none.
    ap (λ h. is_accepted (start_of g c.args.actor (actor_view c.args.state.now) q h))
    (ap (option_map hand_view) c.in_default.is) ∙ c.start_request.ensures.no_memory g t q r none

pub returns-clause-no_memory : goal.returns-clause-no_memory
returns-clause-no_memory c = λ g t q r none.
    let actor = actor_view c.args.state.now in
    let k = hand_view c.in-Some.hand in
    let between = none-mapped run_view c.in-Some.hand.running
    (sym c.is_some.ensures ∙ c.if-is_some.false) in
    let there = ap (option_map hand_view) c.in-Some.is in
    sym (ap is_accepted (start-between g c.args.actor actor q actor.hand k false there between
    c.if-state.false)) ∙ c.start_form.ensures.no_memory g t q k r none
