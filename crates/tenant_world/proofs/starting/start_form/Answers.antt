use Rattle.std.proofs.Common.{◌≡◌, ◌∙◌, sym, ap, subst, option_map}
use Rattle.repl_sessions.specs.State.{StateData}
use Rattle.repl_sessions.specs.Inside.StateView.{state_view}
use Rattle.server_rules.specs.Request.{WorkInHand}
use Rattle.server_rules.specs.Tenant.{actor_state}
use Rattle.server_rules.specs.Starting.{held_or, start_outcome, next_begun}
use Rattle.tenant_parts.specs.View.{actor_view, hand_view}
use Rattle.tenant_world.specs.Answers.{start_answer_view}
use Rattle.tenant_asks.specs.Acting.{AcceptsOutcome}
use Rattle.tenant_world.proofs.Remembering.{held-so, some-same, declined-memory}
use Rattle.tenant_world.proofs.Remembering.{step-without-memory}
use Rattle.tenant_world.proofs.Begins.{accepted-start_outcome}
use Rattle.tenant_world.proofs.starting.start_form.Goals as goal

pub returns-in_err-answers-clause-declined : goal.returns-in_err-answers-clause-declined
returns-in_err-answers-clause-declined c = λ g t q h tries r hand.
    declined-memory g t q _ _ c.from_residual-in_err-answers.result
    c.from_residual-in_err-answers.ensures.1 (c.in_err-answers.ensures.stays g t q r)

pub returns-clause-acted : goal.returns-clause-acted
returns-clause-acted c = λ g t q h tries r hand.
    let a = c.args.actor in
    let actor = actor_view c.args.state.now in
    let new = actor_view c.enter_form.new.state in
    let memory = c.enter_form.new.memory in
    let k = hand_view c.in-Some.hand in
    let s = state_view c.in_ok-session.session in
    let kept = ap (option_map hand_view) c.in-Some.is in
    let same_hand : k ≡ h = some-same k h (sym kept ∙ hand) in
    let same_state : s ≡ actor_state a q = c.in_ok-session.ensures g t q r in
    let free = held-so g t c.args.memory.now q c.is_held.result r c.is_held.ensures ∙ c.if-is_held.false in
    let start = next_begun g k s k.forms in
    let answer = start_answer_view c.in_ok-answers.answers.given in
    let here = c.in_ok-answers.ensures.acted g t q k start r free kept (c.in_ok-next.ensures g tries) in
    let P : WorkInHand → Type 0 = λ x. AcceptsOutcome g t a q
    (held_or q (start_outcome a actor (next_begun g x s x.forms) q)) memory new answer in
    let Q : StateData → Type 0 = λ x. AcceptsOutcome g t a q
    (held_or q (start_outcome a actor (next_begun g h x h.forms) q)) memory new answer in
    subst Q same_state (subst P same_hand here)

pub returns-in_err-session-clause-no_memory : goal.returns-in_err-session-clause-no_memory
returns-in_err-session-clause-no_memory c = λ g t q h r none.
    accepted-start_outcome c.args.actor (actor_view c.args.state.now) _ q
    (held-so g t c.args.memory.now q c.is_held.result r c.is_held.ensures ∙ c.if-is_held.false)

pub returns-in_err-next-clause-no_memory : goal.returns-in_err-next-clause-no_memory
returns-in_err-next-clause-no_memory c = λ g t q h r none.
    accepted-start_outcome c.args.actor (actor_view c.args.state.now) _ q
    (held-so g t c.args.memory.now q c.is_held.result r c.is_held.ensures ∙ c.if-is_held.false)

pub returns-in_err-answers-clause-no_memory : goal.returns-in_err-answers-clause-no_memory
returns-in_err-answers-clause-no_memory c = λ g t q h r none.
    accepted-start_outcome c.args.actor (actor_view c.args.state.now) _ q
    (held-so g t c.args.memory.now q c.is_held.result r c.is_held.ensures ∙ c.if-is_held.false)

pub returns-in_err-answers-clause-step : goal.returns-in_err-answers-clause-step
returns-in_err-answers-clause-step c =
    step-without-memory _ _ _ _ c.from_residual-in_err-answers.result
    c.from_residual-in_err-answers.ensures.1 c.in_err-answers.ensures.kept c.enter_form.ensures.opened
