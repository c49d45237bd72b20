use Rattle.std.proofs.Common.{◌≡◌, ◌<◌, ◌∙◌, [], refl, sym, subst}
use Rattle.repl_asks.specs.Inside.Jobs.{job_view}
use Rattle.repl_asks.specs.Inside.View.{trace_view}
use Rattle.evaluation_rules.specs.Evaluation.{evaluation}
use Rattle.repl_walker.specs.Led.{Recorded}
use Rattle.repl_walker.specs.Ends.{ending_view}
use Rattle.repl_walker.specs.Positions.{calls_left}
use Rattle.repl_walker.proofs.Turns.{fewer_less}
use Rattle.repl_walker.specs.Waits.{walk_tree, progress_tree, progress_job, progress_trace}
use Rattle.repl_walker.specs.declared.waiting.Progress.{Progress}
use Rattle.repl_walker.proofs.Leading.{led-nowhere, recorded-on, recorded-led, end-recorded, left-on}
use Rattle.repl_walker.proofs.run.walk.Goals as goal

pub returns-in-Err-clause-left_at : goal.returns-in-Err-clause-left_at
returns-in-Err-clause-left_at g c = (evaluation (job_view c.args.job.now), led-nowhere _ _)

pub returns-in-Ends-clause-meaning : goal.returns-in-Ends-clause-meaning
returns-in-Ends-clause-meaning g c =
    let job = job_view c.args.job.now in
    let old = (g.R.Refs.heard c.args.refs.now).trace in
    let now = (g.R.Refs.heard c.loop-progress.refs).trace in
    let e = c.in-Ends.ending in
    let P : Progress → Type 0 = λ p. Recorded (evaluation job) old now [] (progress_trace p) (progress_tree p) in
    let recorded : P (Progress.Ends e) = subst P c.in-Ends.is c.loop-progress.invariant.recorded in
    let Q : Progress → Type 0 = λ p. progress_job p ≡ job in
    let same : Q (Progress.Ends e) = subst Q c.in-Ends.is c.loop-progress.invariant.job in
    end-recorded job old now (progress_trace (Progress.Ends e)) (ending_view e) same refl recorded

pub loop-progress-smaller : goal.loop-progress-smaller
loop-progress-smaller g c =
    let P : Progress → Type 0 = λ p. calls_left c.in-Ok-until_a_call.later < calls_left p in
    subst P (sym c.in-Asks.is) (fewer_less c.in-Ok-until_a_call.later c.in-Asks.walk c.in-Ok-until_a_call.ensures.fewer)

pub loop-progress-preserved : goal.loop-progress-preserved
loop-progress-preserved g c =
    let job = job_view c.args.job.now in
    let old = (g.R.Refs.heard c.args.refs.now).trace in
    let now = (g.R.Refs.heard c.loop-progress.refs).trace in
    let new = (g.R.Refs.heard c.until_a_call.new.refs).trace in
    let w = c.in-Asks.walk in
    let p = c.in-Ok-until_a_call.later in
    let e = c.in-Ok-until_a_call.ensures in
    let P : Progress → Type 0 = λ q. Recorded (evaluation job) old now [] (progress_trace q) (progress_tree q) in
    let recorded : P (Progress.Asks w) = subst P c.in-Asks.is c.loop-progress.invariant.recorded in
    let Q : Progress → Type 0 = λ q. progress_job q ≡ job in
    let same : Q (Progress.Asks w) = subst Q c.in-Asks.is c.loop-progress.invariant.job in
    record {
      goes_on = e.ok;
      recorded = recorded-on (evaluation job) (walk_tree w) (progress_tree p) old now new [] (trace_view w.trace.items) (progress_trace p) recorded e.meaning.1;
      job = e.meaning.0 ∙ same;
    }

pub returns-in-Err-until_a_call-clause-left_at : goal.returns-in-Err-until_a_call-clause-left_at
returns-in-Err-until_a_call-clause-left_at g c =
    let job = job_view c.args.job.now in
    let old = (g.R.Refs.heard c.args.refs.now).trace in
    let now = (g.R.Refs.heard c.loop-progress.refs).trace in
    let new = (g.R.Refs.heard c.until_a_call.new.refs).trace in
    let w = c.in-Asks.walk in
    let P : Progress → Type 0 = λ q. Recorded (evaluation job) old now [] (progress_trace q) (progress_tree q) in
    let recorded : P (Progress.Asks w) = subst P c.in-Asks.is c.loop-progress.invariant.recorded in
    let led = recorded-led (evaluation job) (walk_tree w) old now [] (trace_view w.trace.items) recorded in
    left-on (evaluation job) (walk_tree w) old now new c.in-Err-until_a_call.error led c.in-Err-until_a_call.ensures.left_at
