use Rattle.std.proofs.Common.{◌≡◌, ◌∙◌, refl, sym, ap, subst, option_map, Some}
use Rattle.repl_asks.specs.Inside.Jobs.{job_view}
use Rattle.server_rules.specs.Cells.{with_agents}
use Rattle.server_rules.specs.Starting.{action_begun, action_for, start_action, with_action_begun}
use Rattle.server_rules.specs.Plan.{StepAnswer, Outcome, form_begun}
use Rattle.tenant_parts.specs.View.{actor_view}
use Rattle.tenant_asks.specs.Acting.{AcceptsOutcome}
use Rattle.tenant_world.specs.Actions.{next_action_view, hand_of_action}
use Rattle.tenant_world.specs.Answers.{start_answer_view}
use Rattle.tenant_asks.specs.Cells.{cells_data}
use Rattle.tenant_world.proofs.Acts.{remembers-begun, action-agents, action-accepted}
use Rattle.tenant_world.proofs.Begins.{acted-start_outcome}
use Rattle.tenant_world.proofs.Remembering.{acted-with_cells, held-so}
use Rattle.tenant_world.proofs.actions.start_action.Goals as goal

pub returns-clause-acted : goal.returns-clause-acted
returns-clause-acted c = λ g t q tries r.
    let a = c.args.actor in
    let actor = actor_view c.args.state.now in
    let new = actor_view (record c.args.state.now { hand = Some c.in_ok-hand.hand }) in
    let old = c.args.memory.now in
    let memory = record old { cells = record old.cells { agents = c.take_ready.new.self } } in
    let next = next_action_view c.in-Some.next in
    let found : action_for a q.cells.agents ≡ Some next =
    sym (ap (λ x. action_for a x.agents) r.cells) ∙ sym c.next_for.ensures
    ∙ ap (option_map next_action_view) c.in-Some.is in
    let free = held-so g t old q c.is_held.result r c.is_held.ensures ∙ c.if-is_held.false in
    let later = with_action_begun q in
    let job = c.in_ok-job.ensures g tries in
    let put = ap (λ x. record actor { hand = Some x })
    (c.in_ok-hand.ensures ∙ ap (hand_of_action next.action) job) in
    let now = remembers-begun g t old memory a q r (refl, refl, refl, refl)
    (ap (λ x. with_agents x (cells_data old.cells)) c.take_ready.ensures.begun)
    (action-agents a q.cells.agents next found) in
    let here = acted-with_cells g t memory a new _ _ later.cells q
    (acted-start_outcome g t memory a actor new (action_begun g next) later (Some c.in_ok-job.job) free now put
    (ap form_begun job)) in
    let answer = start_answer_view c.in_ok-answers.answers.given in
    let told : answer ≡ form_begun (job_view c.in_ok-job.job) =
    ap start_answer_view c.in_ok-answers.ensures.given ∙ ap form_begun c.in_ok-given.ensures in
    let P : StepAnswer → Type 0 = λ x.
    AcceptsOutcome g t a q (start_action g a actor q (Some next)) memory new x in
    let S : Outcome → Type 0 = λ x. AcceptsOutcome g t a q x memory new answer in
    subst S (ap (start_action g a actor q) (sym found)) (subst P (sym told) here)

pub returns-in_err-job-clause-no_memory : goal.returns-in_err-job-clause-no_memory
returns-in_err-job-clause-no_memory c = λ g t q r none.
    let a = c.args.actor in
    let next = next_action_view c.in-Some.next in
    let found : action_for a q.cells.agents ≡ Some next =
    sym (ap (λ x. action_for a x.agents) r.cells) ∙ sym c.next_for.ensures
    ∙ ap (option_map next_action_view) c.in-Some.is in
    action-accepted g a (actor_view c.args.state.now) q next found
    (held-so g t c.args.memory.now q c.is_held.result r c.is_held.ensures ∙ c.if-is_held.false)

pub returns-in_err-given-clause-no_memory : goal.returns-in_err-given-clause-no_memory
returns-in_err-given-clause-no_memory c = λ g t q r none.
    let a = c.args.actor in
    let next = next_action_view c.in-Some.next in
    let found : action_for a q.cells.agents ≡ Some next =
    sym (ap (λ x. action_for a x.agents) r.cells) ∙ sym c.next_for.ensures
    ∙ ap (option_map next_action_view) c.in-Some.is in
    action-accepted g a (actor_view c.args.state.now) q next found
    (held-so g t c.args.memory.now q c.is_held.result r c.is_held.ensures ∙ c.if-is_held.false)

pub returns-in_err-answers-clause-no_memory : goal.returns-in_err-answers-clause-no_memory
returns-in_err-answers-clause-no_memory c = λ g t q r none.
    let a = c.args.actor in
    let next = next_action_view c.in-Some.next in
    let found : action_for a q.cells.agents ≡ Some next =
    sym (ap (λ x. action_for a x.agents) r.cells) ∙ sym c.next_for.ensures
    ∙ ap (option_map next_action_view) c.in-Some.is in
    action-accepted g a (actor_view c.args.state.now) q next found
    (held-so g t c.args.memory.now q c.is_held.result r c.is_held.ensures ∙ c.if-is_held.false)

pub returns-in_err-hand-clause-no_memory : goal.returns-in_err-hand-clause-no_memory
returns-in_err-hand-clause-no_memory c = λ g t q r none.
    let a = c.args.actor in
    let next = next_action_view c.in-Some.next in
    let found : action_for a q.cells.agents ≡ Some next =
    sym (ap (λ x. action_for a x.agents) r.cells) ∙ sym c.next_for.ensures
    ∙ ap (option_map next_action_view) c.in-Some.is in
    action-accepted g a (actor_view c.args.state.now) q next found
    (held-so g t c.args.memory.now q c.is_held.result r c.is_held.ensures ∙ c.if-is_held.false)
