-- What is seen of a form between its steps, and what a step of it comes to.
use Rattle.std.specs.Prelude.{◌≡◌, ℕ, List, [], Option, IfSome}
use Rattle.repl_asks.specs.Inside.View.{ask_view, answer_view, trace_view}
use Rattle.repl_asks.specs.Inside.Jobs.{job_view}
use Rattle.repl_asks.specs.declared.answer.Answer.{Answer}
use Rattle.repl_asks.specs.declared.ask.Ask.{Ask}
use Rattle.repl_asks.specs.declared.exchange.Exchange.{Exchange}
use Rattle.repl_asks.specs.declared.job.Job.{Job}
use Rattle.repl_walker.specs.Ends.{ending_view}
use Rattle.repl_walker.specs.Waits.{progress_job, progress_trace}
use Rattle.repl_walker.specs.declared.ending.Ending.{Ending}
use Rattle.repl_walker.specs.declared.waiting.Progress.{Progress}
use Rattle.repl_walker.specs.declared.waiting.Walk.{Walk}
use Rattle.server_rules.specs.Plan.{StepAnswer, asks_for, ends, form_begun, ask_answered}
use Rattle.server_rules.specs.Machine.World.{Step, does}
use Rattle.server_rules.specs.Request.{Run}
use Rattle.server_rules.specs.declared.actor.Actor.{Actor}
use Rattle.journal_book.specs.Journal.{EntryData}
use Rattle.journal_book.specs.Standing.{IsMade}
use Rattle.journal_book.specs.View.{BookData, SeatData}
use Rattle.tenant_asks.specs.Asking.{exchange_from, run_with}

-- A form that begins, one that asks, with what it was answered before, one with its answer, and one
-- that ends.

pub record BegunData : Type 0 where
  pub actor : Actor
  pub job : Job

pub record QuestionData : Type 0 where
  pub actor : Actor
  pub job : Job
  pub trace : List Exchange
  pub ask : Ask

pub record AnsweredData : Type 0 where
  pub question : QuestionData
  pub answer : Answer

pub record FinishData : Type 0 where
  pub actor : Actor
  pub ending : Ending

abbrev pub run_of : Progress → Run
run_of p = record { job = progress_job p; trace = progress_trace p }

abbrev pub walk_run : Walk → Run
walk_run w = record { job = job_view w.job; trace = trace_view w.trace.items }

-- the form behind an answer
abbrev pub answered_run : Walk → Answer → Run
answered_run w answer =
    run_with (exchange_from (ask_view w.ask) (answer_view answer)) (walk_run w)

abbrev pub question_run : QuestionData → Run
question_run q = record { job = job_view q.job; trace = trace_view q.trace }

-- behind the answer
abbrev pub told_run : AnsweredData → Run
told_run r = run_with (exchange_from (ask_view r.question.ask) (answer_view r.answer))
    (question_run r.question)

-- the same question, up to a copy of its ask
abbrev pub IsOf : QuestionData → QuestionData → Type 0
IsOf q p = (q.actor ≡ p.actor) × (question_run q ≡ question_run p)
    × (ask_view q.ask ≡ ask_view p.ask)

-- the step of a form that asks, and of one that ends, by the number of its tenant
abbrev pub question_step : ℕ → QuestionData → Step
question_step t q = does t (asks_for q.actor (ask_view q.ask))

abbrev pub finish_step : ℕ → FinishData → Step
finish_step t f = does t (ends f.actor (ending_view f.ending))

-- if the question comes back it is with this answer
abbrev pub TellsAnswer : QuestionData → Option AnsweredData → StepAnswer → Type 0
TellsAnswer question it answer = IfSome it (λ told. IsOf told.question question
    × (answer ≡ ask_answered (answer_view told.answer)))

abbrev pub begun_run : Job → Run
begun_run job = record { job = job_view job; trace = [] }

-- a step was made, with such an answer
abbrev pub MakesOne : BookData → BookData → SeatData → SeatData → Step → (StepAnswer → Type 0)
    → Type 0
MakesOne old new before after s Fits =
    (answer : StepAnswer) × IsMade old new before after s answer × Fits answer
