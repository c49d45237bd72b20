use Rattle.std.proofs.Common.{◌≡◌, ◌∙◌, refl, sym, ap, subst, option_map, List, [], IfOk, IfErr}
use Rattle.repl_sessions.specs.State.{StateData}
use Rattle.repl_sessions.specs.Inside.StateView.{state_view}
use Rattle.name_spaces.specs.Namespaces.{Namespaces}
use Rattle.name_spaces.specs.Inside.Seen.{namespaces_of}
use Rattle.server_rules.specs.Request.{Waiting}
use Rattle.server_rules.specs.Starting.{held_or, start_outcome, text_begun, first_state}
use Rattle.server_rules.specs.Starting.{start_waiting}
use Rattle.server_rules.specs.Plan.{StepAnswer, Outcome}
use Rattle.tenant_parts.specs.View.{actor_view, waiting_view}
use Rattle.tenant_moves.specs.Starts.{answer_given}
use Rattle.tenant_world.specs.Answers.{start_answer_view}
use Rattle.tenant_asks.specs.Acting.{AcceptsOutcome, RefusesOutcome, is_accepted}
use Rattle.tenant_world.specs.Acting.{younger, with_next_in_hand}
use Rattle.tenant_world.proofs.Acts.{none-waits}
use Rattle.tenant_world.proofs.Remembering.{held-so, declined-memory, step-without-memory}
use Rattle.tenant_world.proofs.Begins.{acted-start_outcome, waiting-taken, waiting-accepted}
use Rattle.tenant_world.proofs.starting.start_request.Goals as goal

pub returns-in_err-post_effects-in-Ok-clause-declined : goal.returns-in_err-post_effects-in-Ok-clause-declined
returns-in_err-post_effects-in-Ok-clause-declined c = λ g t q right tries r hand.
    declined-memory g t q _ _ c.from_residual-in_err-post_effects-in-Ok.result
    c.from_residual-in_err-post_effects-in-Ok.ensures.1 (c.in_err-post_effects-in-Ok.ensures.stays g t q r)

pub returns-in_ok-post_effects-in-Ok-clause-acted : goal.returns-in_ok-post_effects-in-Ok-clause-acted
returns-in_ok-post_effects-in-Ok-clause-acted c = λ g t q right tries r hand.
    let a = c.args.actor in
    let actor = actor_view c.args.state.now in
    let new = actor_view c.put_next_in_hand.new.state in
    let memory = c.post_effects.new.memory in
    let w = waiting_view c.in-Some.waiting.now in
    let behind = record actor { waiting = younger actor.waiting } in
    let s = state_view c.in_ok-session.session in
    let spaces = namespaces_of c.args.memory.now.spaces in
    let first = sym c.oldest.ensures ∙ ap (option_map (λ x. waiting_view x.now)) c.in-Some.is in
    let same_state : s ≡ first_state a q = c.in_ok-session.ensures g t q r in
    let free = held-so g t c.args.memory.now q c.is_held.result r c.is_held.ensures ∙ c.if-is_held.false in
    let start = text_begun g spaces w.origin s w.text in
    let given = c.in-Ok.field-0.given in
    let takes = c.in-Ok.ensures g right.readings tries in
    let taken = c.in_ok-post_effects-in-Ok.ensures.taken g t q start.move r takes.told in
    let put = c.put_next_in_hand.ensures
    ∙ ap (λ x. with_next_in_hand x actor) takes.hand in
    let told = takes.answer in
    let here = acted-start_outcome g t memory a behind new start q given free taken put told in
    let P : Namespaces → Type 0 = λ x. AcceptsOutcome g t a q (held_or q (start_outcome a behind
    (text_begun g x w.origin s w.text) q)) memory new (answer_given given) in
    let Q : StateData → Type 0 = λ x. AcceptsOutcome g t a q (held_or q (start_outcome a behind
    (text_begun g q.spaces w.origin x w.text) q)) memory new (answer_given given) in
    let R : StepAnswer → Type 0 = λ x. AcceptsOutcome g t a q (held_or q (start_outcome a behind
    (text_begun g q.spaces w.origin (first_state a q) w.text) q)) memory new x in
    let answer = start_answer_view c.in_ok-answers-in-Ok.answers.given in
    let S : Outcome → Type 0 = λ x. AcceptsOutcome g t a q x memory new answer in
    let told_so = ap start_answer_view c.in_ok-answers-in-Ok.ensures.given ∙ c.answer_of.ensures in
    subst S (waiting-taken g a actor q w actor.waiting first)
    (subst R (sym told_so) (subst Q same_state (subst P r.spaces here)))

pub returns-in_err-session-clause-no_memory : goal.returns-in_err-session-clause-no_memory
returns-in_err-session-clause-no_memory c = λ g t q r none.
    let actor = actor_view c.args.state.now in
    waiting-accepted g c.args.actor actor q (waiting_view c.in-Some.waiting.now) actor.waiting
    (sym c.oldest.ensures ∙ ap (option_map (λ x. waiting_view x.now)) c.in-Some.is)
    (held-so g t c.args.memory.now q c.is_held.result r c.is_held.ensures ∙ c.if-is_held.false)

pub returns-in-Err-clause-no_memory : goal.returns-in-Err-clause-no_memory
returns-in-Err-clause-no_memory c = λ g t q r none.
    let actor = actor_view c.args.state.now in
    waiting-accepted g c.args.actor actor q (waiting_view c.in-Some.waiting.now) actor.waiting
    (sym c.oldest.ensures ∙ ap (option_map (λ x. waiting_view x.now)) c.in-Some.is)
    (held-so g t c.args.memory.now q c.is_held.result r c.is_held.ensures ∙ c.if-is_held.false)

pub returns-in_err-answers-in-Ok-clause-no_memory : goal.returns-in_err-answers-in-Ok-clause-no_memory
returns-in_err-answers-in-Ok-clause-no_memory c = λ g t q r none.
    let actor = actor_view c.args.state.now in
    waiting-accepted g c.args.actor actor q (waiting_view c.in-Some.waiting.now) actor.waiting
    (sym c.oldest.ensures ∙ ap (option_map (λ x. waiting_view x.now)) c.in-Some.is)
    (held-so g t c.args.memory.now q c.is_held.result r c.is_held.ensures ∙ c.if-is_held.false)

pub returns-in_err-post_effects-in-Ok-clause-no_memory : goal.returns-in_err-post_effects-in-Ok-clause-no_memory
returns-in_err-post_effects-in-Ok-clause-no_memory c = λ g t q r none.
    let actor = actor_view c.args.state.now in
    waiting-accepted g c.args.actor actor q (waiting_view c.in-Some.waiting.now) actor.waiting
    (sym c.oldest.ensures ∙ ap (option_map (λ x. waiting_view x.now)) c.in-Some.is)
    (held-so g t c.args.memory.now q c.is_held.result r c.is_held.ensures ∙ c.if-is_held.false)

pub returns-in_err-answers-in-Ok-clause-step : goal.returns-in_err-answers-in-Ok-clause-step
returns-in_err-answers-in-Ok-clause-step c =
    step-without-memory _ _ _ _ c.from_residual-in_err-answers-in-Ok.result
    c.from_residual-in_err-answers-in-Ok.ensures.1 refl refl

pub returns-in_err-post_effects-in-Ok-clause-step : goal.returns-in_err-post_effects-in-Ok-clause-step
returns-in_err-post_effects-in-Ok-clause-step c =
    step-without-memory _ _ _ _ c.from_residual-in_err-post_effects-in-Ok.result
    c.from_residual-in_err-post_effects-in-Ok.ensures.1 refl c.post_effects.ensures.opened

pub returns-in_default-clause-acted : goal.returns-in_default-clause-acted
returns-in_default-clause-acted c = λ g t q right tries r hand.
    let a = c.args.actor in
    let actor = actor_view c.args.state.now in
    let none : actor.waiting ≡ [] = none-waits actor.waiting
    (ap (option_map (λ x. waiting_view x.now)) (sym c.in_default.is) ∙ c.oldest.ensures) in
    let P : List Waiting → Type 0 = λ ws. IfOk c.start_action.result (λ s.
    AcceptsOutcome g t a q (start_waiting g a actor q ws) c.start_action.new.memory
    (actor_view c.start_action.new.state) (start_answer_view s.given)) in
    subst P (sym none) (c.start_action.ensures.acted g t q tries r)

pub returns-in_default-clause-declined : goal.returns-in_default-clause-declined
returns-in_default-clause-declined c = λ g t q right tries r hand.
    let a = c.args.actor in
    let actor = actor_view c.args.state.now in
    let none : actor.waiting ≡ [] = none-waits actor.waiting
    (ap (option_map (λ x. waiting_view x.now)) (sym c.in_default.is) ∙ c.oldest.ensures) in
    let P : List Waiting → Type 0 = λ ws. IfErr c.start_action.result
    (RefusesOutcome g t q (start_waiting g a actor q ws) c.start_action.new.memory) in
    subst P (sym none) (c.start_action.ensures.declined g t q tries r)

pub returns-in_default-clause-no_memory : goal.returns-in_default-clause-no_memory
returns-in_default-clause-no_memory c = λ g t q r none.
    let a = c.args.actor in
    let actor = actor_view c.args.state.now in
    let empty : actor.waiting ≡ [] = none-waits actor.waiting
    (ap (option_map (λ x. waiting_view x.now)) (sym c.in_default.is) ∙ c.oldest.ensures) in
    ap (λ ws. is_accepted (start_waiting g a actor q ws)) empty
    ∙ c.start_action.ensures.no_memory g t q r none
