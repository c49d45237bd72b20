-- What the steps of the code are given and answered, as the rules have it.
use Rattle.std.specs.Prelude.{◌≡◌}
use Rattle.repl_asks.specs.Inside.View.{trace_view}
use Rattle.repl_asks.specs.Inside.Jobs.{job_view, finished_view}
use Rattle.server_rules.specs.Plan.{StepAnswer, form_begun, request_answered}
use Rattle.server_rules.specs.Plan.{form_finished, request_interrupted}
use Rattle.repl_asks.specs.Job.{EndingData}
use Rattle.tenant_world.specs.declared.answers.StartAnswer.{StartAnswer}
use Rattle.tenant_world.specs.declared.answers.StartAnswers.{StartAnswers}
use Rattle.tenant_world.specs.declared.answers.Replies.{Replies}
use Rattle.tenant_world.specs.declared.answers.EndAnswer.{EndAnswer}
use Rattle.tenant_world.specs.declared.answers.EndedEvaluation.{EndedEvaluation}

abbrev pub start_answer_view : StartAnswer → StepAnswer
start_answer_view (StartAnswer.Begun job) = form_begun (job_view job)
start_answer_view StartAnswer.Answered = request_answered
start_answer_view StartAnswer.Interrupted = request_interrupted

-- both are the same
abbrev pub AreSameStarts : StartAnswers → Type 0
AreSameStarts it = start_answer_view it.noted ≡ start_answer_view it.given

abbrev pub AreSameReplies : Replies → Type 0
AreSameReplies it = it.noted.items ≡ it.given.items

abbrev pub end_answer_view : EndAnswer → StepAnswer
end_answer_view EndAnswer.Finished = form_finished
end_answer_view EndAnswer.Interrupted = request_interrupted

abbrev pub told_ending : EndedEvaluation → EndingData
told_ending e = record {
  job = job_view e.job.now;
  trace = trace_view e.trace.now;
  end = finished_view e.finished.now;
}
