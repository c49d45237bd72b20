use Rattle.std.proofs.Common.{◌∙◌, sym, ap, subst, option_map}
use Rattle.server_rules.specs.Plan.{Plan, request_interrupted, form_finished}
use Rattle.tenant_parts.specs.View.{actor_view, hand_view, run_view}
use Rattle.server_rules.specs.DeedResult.{carried_out}
use Rattle.tenant_asks.specs.Acting.{AcceptsOutcome, is_accepted}
use Rattle.tenant_parts.specs.Attempts.{Reaches}
use Rattle.tenant_asks.proofs.Remembering.{acted-interrupted}
use Rattle.tenant_world.proofs.Remembering.{declined-memory-with, held-so}
use Rattle.tenant_world.proofs.Ends.{ends-interrupted, ends-accepted}
use Rattle.tenant_world.proofs.ending.finish.Goals as goal

pub returns-in_err-interrupt-clause-declined : goal.returns-in_err-interrupt-clause-declined
returns-in_err-interrupt-clause-declined c = λ g q s e r reaches.
    declined-memory-with g s.tenant q _ _ c.from_residual.result _ c.from_residual.ensures.1
    (c.in_err-interrupt.ensures.stays g s.tenant q r) reaches

pub returns-then-state-clause-acted : goal.returns-then-state-clause-acted
returns-then-state-clause-acted c = λ g q s e is passes r reaches.
    let a = c.args.actor in
    let actor = actor_view c.args.state.now in
    let k = hand_view c.in-Some.hand in
    let memory = c.interrupt.new.memory in
    let P : Plan → Type 0 = λ p.
    AcceptsOutcome g s.tenant a q (carried_out s p).outcome memory actor request_interrupted
    × Reaches c.leave.new.self (carried_out s p).store in
    subst P (ends-interrupted g a actor e q k _
    (ap (option_map hand_view) c.in-Some.is) (ap (option_map run_view) c.in-Some-running.is)
    c.if-state.true) (
      acted-interrupted g s.tenant memory a actor k q (c.in_ok-interrupt.ensures.told g s.tenant q r),
      record {
        tenant = c.leave.ensures.tenant ∙ reaches.tenant;
        points = c.leave.ensures.left s.mine.points reaches.points;
      },
    )

pub returns-in_err-accept-clause-declined : goal.returns-in_err-accept-clause-declined
returns-in_err-accept-clause-declined c = λ g q s e r reaches.
    declined-memory-with g s.tenant q _ _ c.from_residual-in_err-accept.result _
    c.from_residual-in_err-accept.ensures.1 (c.in_err-accept.ensures.stays g s.tenant q r) reaches

pub returns-clause-acted : goal.returns-clause-acted
returns-clause-acted c = λ g q s e is passes r reaches.
    let a = c.args.actor in
    let actor = actor_view c.args.state.now in
    let k = hand_view c.in-Some.hand in
    let hand = ap (option_map hand_view) c.in-Some.is in
    let P : Plan → Type 0 = λ p.
    AcceptsOutcome g s.tenant a q (carried_out s p).outcome c.accept.new.memory
    (actor_view c.accept.new.state) form_finished
    × Reaches c.leave-2.new.self (carried_out s p).store in
    subst P (ends-accepted g a actor e q k _ hand (ap (option_map run_view) c.in-Some-running.is)
    c.if-state.false (held-so g s.tenant c.args.memory.now q _ r c.is_held.ensures ∙ c.if-is_held.false) passes) (
      c.in_ok-accept.ensures.acted g q s k (run_view c.in-Some-running._run) e is r hand
          (ap (option_map run_view) c.in-Some-running.is),
      record {
        tenant = c.leave-2.ensures.tenant ∙ reaches.tenant;
        points = c.leave-2.ensures.left s.mine.points reaches.points;
      },
    )

pub returns-in_err-interrupt-clause-no_memory : goal.returns-in_err-interrupt-clause-no_memory
returns-in_err-interrupt-clause-no_memory c = λ g q s e passes r none.
    let actor = actor_view c.args.state.now in
    sym (ap (λ p. is_accepted (carried_out s p).outcome) (ends-interrupted g c.args.actor actor e q
    (hand_view c.in-Some.hand) _ (ap (option_map hand_view) c.in-Some.is)
    (ap (option_map run_view) c.in-Some-running.is) c.if-state.true))

pub returns-in_err-accept-clause-no_memory : goal.returns-in_err-accept-clause-no_memory
returns-in_err-accept-clause-no_memory c = λ g q s e passes r none.
    let actor = actor_view c.args.state.now in
    let free = held-so g s.tenant c.args.memory.now q _ r c.is_held.ensures ∙ c.if-is_held.false in
    sym (ap (λ p. is_accepted (carried_out s p).outcome) (ends-accepted g c.args.actor actor e q
    (hand_view c.in-Some.hand) _ (ap (option_map hand_view) c.in-Some.is)
    (ap (option_map run_view) c.in-Some-running.is) c.if-state.false free passes))
