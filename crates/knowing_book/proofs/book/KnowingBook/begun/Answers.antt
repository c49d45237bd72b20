use Rattle.std.proofs.Common.{◌≡◌, ◌∙◌, Some, sym, ap, subst}
use Rattle.repl_asks.specs.Inside.Jobs.{job_view}
use Rattle.server_rules.specs.Machine.World.{does}
use Rattle.server_rules.specs.Plan.{starts}
use Rattle.repl_core.specs.Steps.{step_answer_view}
use Rattle.journal_book.specs.Forms.{form_told}
use Rattle.journal_book.specs.Standing.{entry_of}
use Rattle.journal_book.specs.View.{entries}
use Rattle.knowing_book.specs.Knowledge.{Knows}
use Rattle.knowing_book.specs.View.{begun_run}
use Rattle.knowing_book.proofs.Knowing.{begun-told, one-more}
use Rattle.knowing_book.proofs.book.KnowingBook.begun.Goals as goal

pub invariant_of-result : goal.invariant_of-result
invariant_of-result g c =
    let t = c.args.tenant in
    let a = c.args.actor in
    let before = c.requires.0 in
    let job = c.in-Begun.job in
    let fact = c.fact-fact.result in
    let told : form_told t a (entries c.args.self.now.journal) ≡ Some (begun_run job) =
    ap (form_told t a)
    (c.requires.1
    ∙ ap (λ x. one-more before (entry_of (does t (starts a)) (step_answer_view x))) c.in-Begun.is)
    ∙ begun-told t a before (job_view job) in
    subst (λ u. Knows fact.known u fact.actor fact.last (begun_run job)) (sym c.fact-fact.ensures.tenant)
    (subst (λ b. Knows fact.known t b fact.last (begun_run job)) (sym c.fact-fact.ensures.actor)
    (c.fact-fact.ensures.known (begun_run job) told))
