-- What an evaluation that came so far has still to do, of which job, and after what.
use Rattle.std.specs.Prelude.{◌≡◌, List, [], ◌∷◌, ◌++◌}
use Rattle.repl_asks.specs.Exchange.{AnswerData, Exchanged}
use Rattle.repl_asks.specs.Inside.View.{ask_view, trace_view}
use Rattle.repl_asks.specs.Job.{JobData}
use Rattle.repl_asks.specs.Inside.Jobs.{job_view, finished_view}
use Rattle.repl_asks.specs.InteractionTree.{InteractionTree, finished, asks}
use Rattle.repl_walker.specs.Steps as machine
use Rattle.repl_walker.specs.declared.waiting.Walk.{Walk}
use Rattle.repl_walker.specs.declared.waiting.Progress.{Progress}
use Rattle.repl_walker.specs.Led.{Recorded}

abbrev pub walk_behind : Walk → AnswerData → InteractionTree
walk_behind w = machine.tree_behind w.waiting

abbrev pub walk_tree : Walk → InteractionTree
walk_tree w = asks (ask_view w.ask) (walk_behind w)

abbrev pub progress_tree : Progress → InteractionTree
progress_tree (Progress.Asks w) = walk_tree w
progress_tree (Progress.Ends e) = finished (finished_view e.finished)

abbrev pub progress_job : Progress → JobData
progress_job (Progress.Asks w) = job_view w.job
progress_job (Progress.Ends e) = job_view e.job

abbrev pub progress_trace : Progress → List Exchanged
progress_trace (Progress.Asks w) = trace_view w.trace.items
progress_trace (Progress.Ends e) = trace_view e.trace.items

-- the trace with one more answer, to what a walk asks
abbrev pub trace_with : Walk → AnswerData → List Exchanged
trace_with w answer = trace_view w.trace.items ++ record { ask = ask_view w.ask; answer = answer }
    ∷ []

-- A walk went on to here by exchanges that were heard, and written down.
abbrev pub WentOn : Walk → List Exchanged → List Exchanged → Progress → Type 0
WentOn w old new p = (progress_job p ≡ job_view w.job)
    × Recorded (walk_tree w) old new (trace_view w.trace.items) (progress_trace p) (progress_tree p)
