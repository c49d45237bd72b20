-- Jobs and how they end.
use Rattle.std.specs.Prelude.{ℕ, List, Result}
use Rattle.value_data.specs.Datum.{Datum}
use Rattle.repl_values.specs.Failure.{Failure}
use Rattle.repl_asks.specs.Sends.{TaskData}
use Rattle.repl_asks.specs.Exchange.{Exchanged}

-- what there is to evaluate
pub data WorkData : Type 0 where
  form : Datum → WorkData
  -- a form of the text of the namespace that all tenants share
  shared_form : Datum → WorkData
  -- an action of an agent: the agent's state, and what was sent
  action : Datum → TaskData → WorkData

-- what is evaluated, where, and how many attempts a transaction has
pub record JobData : Type 0 where
  pub work : WorkData
  pub namespace : List ℕ
  pub retries : ℕ

-- how an evaluation ended: a value or a fault, the text that was printed and the namespace
pub record EndData : Type 0 where
  pub result : Result Datum Failure
  pub text : List ℕ
  pub namespace : List ℕ

-- an evaluation that comes back at its end: its job, what it asked and was answered, and how it
-- ended
pub record EndingData : Type 0 where
  pub job : JobData
  pub trace : List Exchanged
  pub end : EndData
