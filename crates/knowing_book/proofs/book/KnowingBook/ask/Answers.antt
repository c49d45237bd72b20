use Rattle.std.proofs.Common.{rules, ◌≡◌, ◌∙◌, IfSome, Some, sym, ap, subst}
use Rattle.knowing_book.specs.Lasts.{last_at}
use Rattle.repl_asks.specs.Inside.View.{ask_view, answer_view}
use Rattle.server_rules.specs.Machine.World.{does}
use Rattle.server_rules.specs.Plan.{asks_for, ask_answered}
use Rattle.repl_core.specs.Forms.{form_by_step}
use Rattle.repl_core.specs.Steps.{step_answer_view}
use Rattle.tenant_asks.specs.Asking.{exchange_from, run_with}
use Rattle.journal_book.specs.Standing.{IsMade, entry_of}
use Rattle.journal_book.specs.View.{entries}
use Rattle.knowing_book.specs.Keys.{actor_key, last_by}
use Rattle.knowing_book.specs.Knowledge.{Knows}
use Rattle.knowing_book.specs.View.{QuestionData, answered_run, question_run, walk_run}
use Rattle.knowing_book.proofs.Knowing.{asked-told, kept-last}
use Rattle.knowing_book.proofs.book.KnowingBook.ask.Goals as goal

-- the form was interrupted
pub returns-in-Ok : goal.returns-in-Ok
returns-in-Ok g c =
    let old = c.args.self.now in
    let seat = c.args.seat.now.tenant in
    let ask = ask_view c.question.inside.ask.value in
    let answer = step_answer_view c.in-Ok.field-0.answer in
    let same = ap (λ u. does u (asks_for c.of-fact.result.actor ask)) c.tenant-tenant.ensures
    ∙ ap (λ b. does seat (asks_for b ask)) c.of-fact.ensures.actor
    ∙ ap (λ q. does seat (asks_for q.actor (ask_view q.ask))) c.question.view_is in
    let made = subst (λ s. IsMade old c.make.new.self c.args.seat.now c.make.new.seat s answer) same
    c.in-Ok.ensures.made.1 in
    record {
      made = (answer, made, tt);
      declined = tt;
    }

-- the form comes back with its answer
pub returns-in-Ok-Answer-clause-made : goal.returns-in-Ok-Answer-clause-made
returns-in-Ok-Answer-clause-made g c =
    let old = c.args.self.now in
    let seat = c.args.seat.now.tenant in
    let ask = ask_view c.question.inside.ask.value in
    let answer = step_answer_view c.in-Ok-Answer.field-0.answer in
    let is : answer ≡ ask_answered (answer_view c.in-Ok-Answer.told) = search rules in
    let same = ap (λ u. does u (asks_for c.of-fact.result.actor ask)) c.tenant-tenant.ensures
    ∙ ap (λ b. does seat (asks_for b ask)) c.of-fact.ensures.actor
    ∙ ap (λ q. does seat (asks_for q.actor (ask_view q.ask))) c.question.view_is in
    let made = subst (λ s. IsMade old c.make.new.self c.args.seat.now c.make.new.seat s answer) same
    c.in-Ok-Answer.ensures.made.1 in
    let actor = c.later.ensures.actor ∙ c.of-fact.ensures.actor
    ∙ ap (λ (q : QuestionData). q.actor) c.question.view_is in
    let run = ap question_run c.question.view_is in
    let same_ask = sym c.question.invariant.0
    ∙ ap (λ (q : QuestionData). ask_view q.ask) c.question.view_is in
    (answer, made, ((actor, run, same_ask), is))

-- the form with its answer is the one of which the journal tells now
pub invariant_of-result : goal.invariant_of-result
invariant_of-result g c =
    let b = c.self.inside in
    let t = c.tenant-tenant.result in
    let fact = c.of-fact.result in
    let a = fact.actor in
    let asked = ask_view c.question.inside.ask.value in
    let told = answer_view c.in-Ok-Answer.told in
    let answer = step_answer_view c.in-Ok-Answer.field-0.answer in
    let is : answer ≡ ask_answered told = search rules in
    let form = walk_run c.question.inside.walk in
    let now = answered_run c.question.inside.walk c.in-Ok-Answer.told in
    let later = c.later.result in
    let kept = c.get-kept.result in
    let before = entries c.args.self.now.journal in
    let e = entry_of (does t (asks_for a asked)) answer in
    let knows : Knows fact.known fact.tenant a fact.last form =
    subst (λ u. Knows fact.known u a fact.last form) (sym c.of-fact.ensures.tenant)
    (subst (λ x. Knows fact.known t x fact.last form) (sym c.of-fact.ensures.actor)
    (c.of-fact.ensures.known form c.question.invariant.1)) in
    let found : kept ≡ last_at b.lasts (actor_key t a) =
    c.get-kept.ensures ∙ ap (last_at b.lasts) c.actor_key.ensures in
    let last : IfSome kept (λ n. n ≡ last_by fact.tenant a before) =
    subst (λ u. IfSome kept (λ n. n ≡ last_by u a before)) (sym c.of-fact.ensures.tenant)
    (subst (λ book. IfSome kept (λ n. n ≡ last_by t a (entries book.journal))) c.self.view_is
    (kept-last t a (entries b.book.journal) b.lasts kept c.self.invariant.1 found)) in
    let made : form_by_step fact.tenant a e.step e.answer (Some form) ≡ Some now =
    subst (λ u. form_by_step u a e.step e.answer (Some form) ≡ Some now)
    (sym c.of-fact.ensures.tenant)
    (ap (λ x. form_by_step t a e.step x (Some form)) is
    ∙ asked-told t a asked told form
    ∙ ap (λ x. Some (run_with (exchange_from x told) form)) c.question.invariant.0) in
    subst (λ u. Knows later.known u later.actor later.last now) (sym c.later.ensures.tenant)
    (subst (λ x. Knows later.known fact.tenant x later.last now) (sym c.later.ensures.actor)
    (c.later.ensures.known before e form now c.in-Ok-Answer.ensures.made.1.journal.journal last knows
    made))
