-- What of a request is begun.
use Rattle.std.specs.Prelude.{◌≡◌, [], ◌∷◌, Option, None, Some, option_map}
use Rattle.value_data.specs.Datum.{Datum, Items, no_items, item}
use Rattle.value_data.specs.Inside.Ends.{behind_first}
use Rattle.repl_asks.specs.Job.{JobData, form}
use Rattle.repl_asks.specs.Inside.Jobs.{job_view}
use Rattle.repl_asks.specs.declared.job.Job.{Job}
use Rattle.repl_replies.specs.Replies.{OriginData, namespace_not_found}
use Rattle.repl_sessions.specs.State.{StateData}
use Rattle.server_rules.specs.Ground.{Ground}
use Rattle.server_rules.specs.Replying.{reply}
use Rattle.server_rules.specs.Moves.{over_move, in_hand, closing_move}
use Rattle.server_rules.specs.Request as rules
use Rattle.server_rules.specs.Plan.{StepAnswer, form_begun, request_answered}
use Rattle.server_rules.specs.Starting.{Started, form_job}
use Rattle.tenant_parts.specs.View.{hand_view}
use Rattle.tenant_moves.specs.declared.starting.BegunForm.{BegunForm}
use Rattle.tenant_moves.specs.declared.starting.NextForm.{NextForm}
use Rattle.tenant_moves.specs.declared.starting.BegunRequest.{BegunRequest}
use Rattle.tenant_moves.specs.Told.{TellsMove}

abbrev pub first_item : Items → Option Datum
first_item no_items = None
first_item (item d ds) = Some d

-- the first of the forms runs, as this job
abbrev pub with_run : rules.WorkInHand → JobData → rules.WorkInHand
with_run h job = record h {
  running = Some (record { job = job; trace = [] });
  forms = behind_first h.forms;
}

abbrev pub hand_begun : rules.WorkInHand → Option BegunForm → Option rules.WorkInHand
hand_begun h None = None
hand_begun h (Some b) = Some (with_run h (job_view b.job))

-- a job is given out to be evaluated, or the request was done at once
abbrev pub answer_given : Option Job → StepAnswer
answer_given None = request_answered
answer_given (Some job) = form_begun (job_view job)

abbrev pub given_job : Option BegunForm → Option Job
given_job = option_map (λ b. b.given)

-- the first of its forms, which is this, begins
abbrev pub form_begun_with : Ground → rules.WorkInHand → StateData → Datum → Started
form_begun_with g h state d =
    let job = form_job g h (form d) in
    record { move = in_hand (with_run h job) state; answer = form_begun job }

-- no form of it is left
abbrev pub request_over : rules.WorkInHand → StateData → Started
request_over h state =
    record { move = closing_move h.origin h.manner h.fault state; answer = request_answered }

-- the namespace that the request names is not there
abbrev pub not_found : OriginData → StateData → Started
not_found origin state =
    record {
      move = over_move (reply origin namespace_not_found ∷ []) state;
      answer =
          request_answered;
    }

-- the request in hand goes on by this start
pub record StartsForm (s : Started) (h : rules.WorkInHand) (next : NextForm) : Type 0 where
  pub told : TellsMove s.move next.effects
  pub hand : hand_begun h next.begun ≡ s.move.hand
  pub answer : answer_given (given_job next.begun) ≡ s.answer

-- a request is taken up by this start
pub record BeginsRequest (s : Started) (made : BegunRequest) : Type 0 where
  pub told : TellsMove s.move made.effects
  pub hand : option_map hand_view made.hand ≡ s.move.hand
  pub answer : answer_given made.given ≡ s.answer
