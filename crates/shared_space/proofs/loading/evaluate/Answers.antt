use Rattle.std.proofs.Common.{◌≡◌, IfErr, sym, subst, ◌∙◌}
use Rattle.value_data.specs.Inside.View.{view}
use Rattle.repl_asks.specs.Inside.Jobs.{job_view}
use Rattle.evaluation_rules.specs.Evaluation.{evaluation}
use Rattle.repl_walker.specs.Ends.{ending_view}
use Rattle.repl_walker.specs.Stops.{LeftAt}
use Rattle.server_rules.specs.Shared.{nothing_shared, text_job}
use Rattle.shared_space.specs.Loaded.{IsFaultOf}
use Rattle.shared_space.specs.Told.{exchanges, shared_from}
use Rattle.shared_space.proofs.Leading.{ended, left-untold, on_ok}
use Rattle.shared_space.proofs.loading.evaluate.Goals as goal

pub returns-in-Ok-clause-evaluated : goal.returns-in-Ok-clause-evaluated
returns-in-Ok-clause-evaluated c = λ e evaluates.
    let ending = ending_view c.in-Ok.ending in
    let new = exchanges c.walk-outcome.new.refs in
    let m = c.in-Ok.ensures.meaning in
    on_ok c.end_of.result
    (λ kept. ended e (job_view c.in_ok-job.job) (text_job (view c.args.form.now))
    (exchanges c.args.teller.now) ending.trace new ending.end evaluates c.in_ok-job.ensures m.1
    c.has_told.ensures m.2 ∙ kept) (c.end_of.ensures.value (shared_from nothing_shared new))

pub returns-in-Ok-clause-fault : goal.returns-in-Ok-clause-fault
returns-in-Ok-clause-fault c = λ e evaluates.
    let ending = ending_view c.in-Ok.ending in
    let new = exchanges c.walk-outcome.new.refs in
    let m = c.in-Ok.ensures.meaning in
    subst (λ r. IfErr c.end_of.result (IsFaultOf r))
    (sym (ended e (job_view c.in_ok-job.job) (text_job (view c.args.form.now))
    (exchanges c.args.teller.now) ending.trace new ending.end evaluates c.in_ok-job.ensures m.1
    c.has_told.ensures m.2)) (c.end_of.ensures.fault (shared_from nothing_shared new))

pub returns-in-Err-Stopped-clause-fault : goal.returns-in-Err-Stopped-clause-fault
returns-in-Err-Stopped-clause-fault c = λ e evaluates.
    let left = subst (λ why. LeftAt (evaluation (job_view c.in_ok-job.job))
    (exchanges c.args.teller.now) (exchanges c.walk-outcome.new.refs) why) c.in-Err-Stopped.field-0-is
    c.in-Err-Stopped.ensures.left_at in
    left-untold e (job_view c.in_ok-job.job) (text_job (view c.args.form.now))
    (exchanges c.args.teller.now) c.walk-outcome.new.refs c.in-Err-Stopped.ask c.untold.result
    evaluates c.in_ok-job.ensures c.has_told.ensures left c.untold.ensures
