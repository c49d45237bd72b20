-- What the code's jobs and ends stand for.
use Rattle.std.specs.Prelude.{Result, Ok, Err, string_bytes}
use Rattle.std.specs.Arc.{arc_str_bytes, arc_value}
use Rattle.value_data.specs.Datum.{Datum}
use Rattle.value_data.specs.Inside.View.{view}
use Rattle.repl_values.specs.Failure.{Failure}
use Rattle.repl_values.specs.Inside.FaultView.{failure_of}
use Rattle.repl_asks.specs.Job as jobs
use Rattle.repl_asks.specs.Job.{WorkData, JobData, EndData}
use Rattle.repl_asks.specs.Inside.View.{task_view}
use Rattle.repl_asks.specs.declared.job.Work.{Work}
use Rattle.repl_asks.specs.declared.job.Job.{Job}
use Rattle.repl_asks.specs.declared.job.End.{End}
use Rattle.repl_asks.specs.declared.job.Finished.{Finished}

abbrev pub work_view : Work → WorkData
work_view (Work.Form form) = jobs.form (view form)
work_view (Work.SharedForm form) = jobs.shared_form (view form)
work_view (Work.Action state task) = jobs.action (view state) (task_view (arc_value task))

abbrev pub job_view : Job → JobData
job_view job = record {
  work = work_view job.work;
  namespace =
      arc_str_bytes job.namespace;
  retries = job.retries;
}

abbrev pub end_view : End → Result Datum Failure
end_view (End.Value v) = Ok (view v)
end_view (End.Fault f) = Err (failure_of f)

abbrev pub finished_view : Finished → EndData
finished_view f = record {
  result = end_view f.end;
  text = string_bytes f.text;
  namespace =
      arc_str_bytes f.namespace;
}
