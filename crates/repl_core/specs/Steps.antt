-- A step and its answer, as the rules have them.
use Rattle.std.specs.Prelude.{◌≡◌, ◌≢◌, Bool, true, false}
use Rattle.repl_asks.specs.Inside.View.{ask_view, answer_view}
use Rattle.repl_asks.specs.Inside.Jobs.{job_view}
use Rattle.server_rules.specs.Ground.{Ground}
use Rattle.server_rules.specs.Plan as rules
use Rattle.server_rules.specs.Plan.{tenant_opened, messages_heard, form_begun, request_answered}
use Rattle.server_rules.specs.Plan.{ask_answered, form_finished, request_interrupted, reply_given}
use Rattle.server_rules.specs.Plan.{tenant_gone}
use Rattle.server_rules.specs.Machine.World as worlds
use Rattle.server_rules.specs.Machine.World.{World, opens, does, closes, Stepped, accepted, refused}
use Rattle.server_rules.specs.Machine.World.{step}
use Rattle.server_rules.specs.declared.refusal.Refusal.{Refusal}
use Rattle.repl_walker.specs.Ends.{ending_view}
use Rattle.repl_core.specs.Standing.{MachineStands}
use Rattle.repl_core.specs.declared.machine.Machine.{Machine}
use Rattle.repl_core.specs.declared.step.Step.{Step}
use Rattle.repl_core.specs.declared.step.StepAnswer.{StepAnswer}
use Rattle.repl_core.specs.declared.step.StepAnswers.{StepAnswers}

abbrev pub step_view : Step → worlds.Step
step_view (Step.Open t) = opens t
step_view (Step.Hear t piece) = does t (rules.hears piece)
step_view (Step.Start t actor) = does t (rules.starts actor)
step_view (Step.Asked t actor ask) = does t (rules.asks_for actor (ask_view ask.value))
step_view (Step.Ended t actor ending) = does t (rules.ends actor (ending_view ending.value))
step_view (Step.Drain t) = does t rules.drains
step_view (Step.Bye t) = closes t

abbrev pub step_answer_view : StepAnswer → rules.StepAnswer
step_answer_view StepAnswer.Opened = tenant_opened
step_answer_view (StepAnswer.Heard n) = messages_heard n
step_answer_view (StepAnswer.Begun job) = form_begun (job_view job)
step_answer_view StepAnswer.Answered = request_answered
step_answer_view (StepAnswer.Answer answer) = ask_answered (answer_view answer)
step_answer_view StepAnswer.Finished = form_finished
step_answer_view StepAnswer.Interrupted = request_interrupted
step_answer_view (StepAnswer.Bytes bytes) = reply_given bytes.items
step_answer_view StepAnswer.Gone = tenant_gone

-- both are the same
abbrev pub AreSame : StepAnswers → Type 0
AreSame it = step_answer_view it.noted ≡ step_answer_view it.given

-- the rules do not refuse it
abbrev pub is_accepted_step : Stepped → Bool
is_accepted_step (accepted after answer) = true
is_accepted_step (refused why) = false

-- the step is accepted with this answer, and the machine stands for the server behind it
pub record AcceptsStep (g : Ground) (w : World) (s : worlds.Step) (m : Machine)
    (answer : rules.StepAnswer)
    : Type 0 where
  pub after : World
  pub accepted : step g w s ≡ accepted after answer
  pub stands : MachineStands g m after

-- the step is refused so, unless for want of memory, and the machine stands for the server as it
-- was
pub record RefusesStep (g : Ground) (w : World) (s : worlds.Step) (m : Machine) (why : Refusal)
    : Type 0 where
  pub refused : why ≢ Refusal.NoMemory → step g w s ≡ refused why
  pub stands : MachineStands g m w
