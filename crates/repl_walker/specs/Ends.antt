-- What endings stand for.
use Rattle.std.specs.Prelude.{◌≡◌, List, ◌++◌}
use Rattle.repl_asks.specs.Exchange.{Exchanged}
use Rattle.repl_asks.specs.Inside.View.{trace_view}
use Rattle.repl_asks.specs.Job.{JobData, EndingData}
use Rattle.repl_asks.specs.Inside.Jobs.{job_view, finished_view}
use Rattle.repl_asks.specs.InteractionTree.{finished}
use Rattle.repl_asks.specs.Leading.{Leads}
use Rattle.evaluation_rules.specs.Evaluation.{evaluation}
use Rattle.repl_walker.specs.declared.ending.Ending.{Ending}

abbrev pub ending_view : Ending → EndingData
ending_view e = record {
  job = job_view e.job;
  trace = trace_view e.trace.items;
  end =
      finished_view e.finished;
}

-- The job's evaluation was led to this end by the exchanges that a trace grew by.
abbrev pub IsEndOf : JobData → List Exchanged → List Exchanged → EndingData → Type 0
IsEndOf job old new e = (e.job ≡ job) × (new ≡ old ++ e.trace)
    × Leads (evaluation job) e.trace (finished e.end)
