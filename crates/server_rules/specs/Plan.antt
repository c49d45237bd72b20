-- A tenant's deeds as plans: each calls the refs at most once, and goes on with what they tell.
use Rattle.std.specs.Prelude.{ℕ, ◌-◌, List, [], Option}
use Rattle.repl_asks.specs.Exchange.{AskData, AnswerData}
use Rattle.repl_asks.specs.Job.{JobData, EndingData}
use Rattle.ref_table.specs.Calls.{StoreCall, nothing}
use Rattle.server_rules.specs.Tenant.{TenantState}
use Rattle.server_rules.specs.declared.actor.Actor.{Actor}
use Rattle.server_rules.specs.declared.refusal.Refusal.{Refusal}

pub data Deed : Type 0 where
  -- a piece of the stream is heard
  hears : List ℕ → Deed
  -- an actor begins its next form or request, asks for its form, or ends it
  starts : Actor → Deed
  asks_for : Actor → AskData → Deed
  ends : Actor → EndingData → Deed
  -- the oldest reply is taken out
  drains : Deed

pub data StepAnswer : Type 0 where
  tenant_opened : StepAnswer
  -- how many messages became whole
  messages_heard : ℕ → StepAnswer
  form_begun : JobData → StepAnswer
  -- the request was done at once
  request_answered : StepAnswer
  ask_answered : AnswerData → StepAnswer
  form_finished : StepAnswer
  -- the session was closed meanwhile
  request_interrupted : StepAnswer
  reply_given : List ℕ → StepAnswer
  tenant_gone : StepAnswer

-- the bytes that an answer gives
abbrev pub bytes_in : StepAnswer → List ℕ
bytes_in (reply_given bytes) = bytes
bytes_in _ = []

-- what comes of a deed once the refs have told
pub data Outcome : Type 0 where
  refuses : Refusal → Outcome
  leaves : TenantState → StepAnswer → Outcome

pub record Plan : Type 0 where
  pub call : StoreCall
  pub next : Option AnswerData → Outcome

-- a deed that needs no refs
abbrev pub quietly : Outcome → Plan
quietly outcome = record { call = nothing; next = λ told. outcome }

-- one step is used up
abbrev pub with_step_spent : TenantState → TenantState
with_step_spent q = record q { steps = q.steps - 1 }
