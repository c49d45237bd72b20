-- What one stream comes to, served by a server that was just made.
use Rattle.std.specs.Prelude.{◌≡◌, ⊤, Result, Err}
use Rattle.repl_values.specs.Failure.{Failure}
use Rattle.repl_values.specs.declared.fault.Fault.{Fault}
use Rattle.server_rules.specs.Ground.{Ground}
use Rattle.server_rules.specs.LoneTurns.{opened_lone}
use Rattle.nrepl_pipe.specs.Failing.{TellsFailures}
use Rattle.nrepl_pipe.specs.Ports.{Input, Output}
use Rattle.nrepl_pipe.specs.Reads.{ReadsPromptly, HoldsNothingBack}
use Rattle.nrepl_pipe.specs.Served.{IsPipeOutcome}
use Rattle.nrepl_pipe.specs.declared.ends.PipeEnd.{PipeEnd}
use Rattle.nrepl_pipe.specs.declared.ends.PipeError.{PipeError}
use Rattle.repl_core.specs.Configured.{IsConfigured, TextFaults}
use Rattle.repl_core.specs.declared.machine.Config.{Config}

-- there is something on which such a server stands, so its text has no fault; unless the end tells
-- of a fault or of refused memory
abbrev pub IsGrounded : Config → Result PipeEnd PipeError → Type 0
IsGrounded config (Err (PipeError.SharedText fault)) = ⊤
IsGrounded config (Err PipeError.NoMemory) = ⊤
IsGrounded config outcome = (g : Ground) × IsConfigured g config

pub record ServesStream (config : Config) (read_from left : Input) (before behind : Output)
    (outcome : Result PipeEnd PipeError) : Type 0 where
  -- what is written is what the schedule serves
  pub served : (g : Ground) → IsConfigured g config → IsPipeOutcome g (opened_lone g)
      read_from.remaining left.remaining before.contents behind.contents outcome
  -- each read is made once all is written that was due
  pub prompt : (g : Ground) → IsConfigured g config → ReadsPromptly g (opened_lone g)
      read_from.remaining before.contents read_from.reads left.reads
  -- a writer that held nothing back is left so
  pub passed : HoldsNothingBack before.contents before.passed behind.contents behind.passed
      read_from.reads left.reads outcome
  -- a failed read or write is told, and none that did not fail
  pub told : TellsFailures read_from.failed left.failed before.failed behind.failed outcome
  pub fault : (fault : Fault) → outcome ≡ Err (PipeError.SharedText fault)
      → (failure : Failure) × TextFaults config failure
  -- where a text has a fault the end tells that, or that memory was refused, and nothing was read or
  -- written
  pub grounded : IsGrounded config outcome
  pub unserved : ((g : Ground) → ¬ IsConfigured g config)
      → (left ≡ read_from) × (behind ≡ before)
