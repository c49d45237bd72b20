use Rattle.std.proofs.Common.{◌≡◌, [], false}
use Rattle.repl_asks.specs.Inside.Jobs.{job_view}
use Rattle.evaluation_rules.specs.Evaluation.{evaluation}
use Rattle.repl_walker.specs.Led.{Recorded}
use Rattle.repl_walker.specs.Waits.{progress_tree, progress_job, progress_trace}
use Rattle.repl_walker.specs.Positions.{calls_left}
use Rattle.repl_walker.proofs.run.walk.Given as goal

abbrev pub invariant-loop-progress : goal.invariant-loop-progress
invariant-loop-progress g l = record {
  goes_on : (g.R.Refs.heard l.refs).stopped ≡ false;
  recorded : Recorded (evaluation (job_view l.initial.job)) (g.R.Refs.heard l.initial.refs).trace (g.R.Refs.heard l.refs).trace
      [] (progress_trace l.progress) (progress_tree l.progress);
  job : progress_job l.progress ≡ job_view l.initial.job;
}

abbrev pub decreases-loop-progress : goal.decreases-loop-progress
decreases-loop-progress g l = calls_left l.progress
