-- What comes of serving a tenant over a reader and a writer.
use Rattle.std.specs.Prelude.{◌≡◌, false, Result}
use Rattle.server_rules.specs.Ground.{Ground}
use Rattle.server_rules.specs.Grounds.{IsRight}
use Rattle.server_rules.specs.LoneTurns.{LoneTenant}
use Rattle.nrepl_pipe.specs.Failing.{TellsFailures, is_text_fault}
use Rattle.nrepl_pipe.specs.Ports.{Input, Output}
use Rattle.nrepl_pipe.specs.Reads.{ReadsPromptly, HoldsNothingBack}
use Rattle.nrepl_pipe.specs.Served.{IsPipeOutcome}
use Rattle.nrepl_pipe.specs.Inside.Fresh.{IsFresh}
use Rattle.nrepl_pipe.specs.declared.ends.PipeEnd.{PipeEnd}
use Rattle.nrepl_pipe.specs.declared.ends.PipeError.{PipeError}

-- a tenant for which the core stands, and which has heard nothing yet, is served so
pub record ServesTenant (stands : Ground → LoneTenant → Type 0) (read_from left : Input)
    (before behind : Output) (outcome : Result PipeEnd PipeError) : Type 0 where
  -- what is written is what the schedule serves
  pub served : (g : Ground) (l : LoneTenant) → IsRight g → stands g l → IsFresh l
      → IsPipeOutcome g l read_from.remaining left.remaining before.contents behind.contents outcome
  -- each read is made once all is written that was due
  pub prompt : (g : Ground) (l : LoneTenant) → IsRight g → stands g l → IsFresh l
      → ReadsPromptly g l read_from.remaining before.contents read_from.reads left.reads
  -- a writer that held nothing back is left so
  pub passed : HoldsNothingBack before.contents before.passed behind.contents behind.passed
      read_from.reads left.reads outcome
  -- a failed read or write is told, and none that did not fail
  pub told : TellsFailures read_from.failed left.failed before.failed behind.failed outcome
  -- no text that tenants share was read
  pub no_text : is_text_fault outcome ≡ false
