-- A request to evaluate: while it waits, and while it is in hand. An action that was begun is one too.
use Rattle.std.specs.Prelude.{ℕ, List, Option}
use Rattle.bencode_wire.specs.Tree.{Tree}
use Rattle.value_data.specs.Datum.{Datum, Items}
use Rattle.repl_values.specs.Failure.{Failure}
use Rattle.repl_asks.specs.Exchange.{Exchanged}
use Rattle.repl_asks.specs.Job.{JobData}
use Rattle.repl_replies.specs.Replies.{OriginData}

-- what is evaluated
pub data ProgramText : Type 0 where
  -- code, and the namespace that is named for it, as it came
  code : List ℕ → Option Tree → ProgramText
  file : List ℕ → ProgramText

pub record Waiting : Type 0 where
  pub origin : OriginData
  pub text : ProgramText

-- how the forms of a request are answered
pub data Manner : Type 0 where
  -- each form by its value; where they leave the namespace, there the session stays
  each_form : Manner
  -- each form by its value, in a namespace that was named
  each_form_elsewhere : Manner
  -- all forms by the value of the last; this is the last so far
  last_form : Datum → Manner
  -- an action, by what it prints alone; it came from the session of this number, or from none
  of_action : Option ℕ → Manner

-- a form that runs: its job, and what it asked and was answered
pub record Run : Type 0 where
  pub job : JobData
  pub trace : List Exchanged

-- a request that was begun and is not done
pub record WorkInHand : Type 0 where
  pub origin : OriginData
  pub manner : Manner
  -- the namespace in which its next form is evaluated
  pub namespace : List ℕ
  -- the form that runs, if one does; the forms behind it, and the fault of the text behind them all
  pub running : Option Run
  pub forms : Items
  pub fault : Option Failure
