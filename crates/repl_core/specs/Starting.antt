-- Whether a server with a configuration can be made.
use Rattle.std.specs.Prelude.{◌≡◌, Err}
use Rattle.repl_values.specs.Failure.{Failure}
use Rattle.evaluation_rules.specs.Evaluation.{evaluation}
use Rattle.server_rules.specs.Readings.{Readings, AreRight}
use Rattle.server_rules.specs.Shared.{shared_by_text}
use Rattle.shared_space.specs.declared.space.LoadError.{LoadError}
use Rattle.shared_space.specs.Loaded.{IsFaultIn}
use Rattle.repl_core.specs.Configured.{shared_text}
use Rattle.repl_core.specs.declared.machine.Config.{Config}

-- the error is the fault of the text, or memory was refused
abbrev pub TellsFault : Config → LoadError → Type 0
TellsFault config = IsFaultIn (shared_text config.shared)

-- the text has a fault
pub record HasFault (config : Config) : Type 0 where
  pub readings : Readings
  pub right : AreRight readings
  pub failure : Failure
  pub faults : shared_by_text readings evaluation (shared_text config.shared) ≡ Err failure
