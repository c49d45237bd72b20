use Rattle.std.proofs.Common.{◌≡◌, List, IfOk, ap₂, subst}
use Rattle.repl_asks.specs.Exchange.{Exchanged}
use Rattle.repl_asks.specs.Job.{JobData}
use Rattle.server_rules.specs.Request.{Run}
use Rattle.knowing_book.specs.Reached.{IsReached}
use Rattle.knowing_book.specs.View.{AnsweredData, answered_run, run_of, told_run}
use Rattle.knowing_book.proofs.forms.Answered.resume.Goals as goal

abbrev run_with_parts : JobData → List Exchanged → Run
run_with_parts job trace = record { job = job; trace = trace }

pub returns : goal.returns
returns g c =
    let form : run_of c.in_ok-progress.progress ≡ answered_run c.self.inside.walk c.self.inside.answer =
    ap₂ run_with_parts c.in_ok-progress.ensures.job c.in_ok-progress.ensures.trace in
    subst (λ (r : AnsweredData). IfOk c.reach.result (IsReached r.question.actor (told_run r)))
    c.self.view_is
    (subst (λ (f : Run). IfOk c.reach.result (IsReached c.self.inside.fact.actor f)) form
    c.reach.ensures)
