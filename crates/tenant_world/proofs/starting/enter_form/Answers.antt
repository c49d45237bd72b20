use Rattle.std.proofs.Common.{◌≡◌, ◌∙◌, sym, ap, subst}
use Rattle.server_rules.specs.Starting.{held_or, start_outcome}
use Rattle.server_rules.specs.Plan.{StepAnswer}
use Rattle.ref_table.proofs.Telling.{on_err}
use Rattle.tenant_parts.specs.View.{actor_view}
use Rattle.tenant_moves.specs.Starts.{answer_given, given_job}
use Rattle.tenant_asks.specs.Acting.{AcceptsOutcome}
use Rattle.tenant_world.proofs.Begins.{acted-start_outcome}
use Rattle.tenant_world.proofs.starting.enter_form.Goals as goal

pub returns-clause-acted : goal.returns-clause-acted
returns-clause-acted c = λ g t q h start r free hand goes.
    let a = c.args.actor in
    let actor = actor_view c.args.state.now in
    let new = actor_view c.put_begun-given.new.state in
    let memory = c.post_effects.new.memory in
    let given = given_job c.args.next.begun in
    let taken = c.in_ok-post_effects.ensures.taken g t q start.move r goes.told in
    let put = c.put_begun-given.ensures.hand h hand
    ∙ ap (λ x. record actor { hand = x }) goes.hand in
    let told = goes.answer in
    let here = acted-start_outcome g t memory a actor new start q given free taken put told in
    let P : StepAnswer → Type 0 = λ x. AcceptsOutcome g t a q
    (held_or q (start_outcome a actor start q)) memory new x in
    subst P (sym c.put_begun-given.ensures.answer) here

pub returns-in_err-post_effects-clause-stays : goal.returns-in_err-post_effects-clause-stays
returns-in_err-post_effects-clause-stays c = λ g t q r.
    on_err c.from_residual-in_err-post_effects.result (c.in_err-post_effects.ensures.stays g t q r)
