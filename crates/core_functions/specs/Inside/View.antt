-- What the code returns, as an outcome. Memory may run out at any call, and then nothing is said.
use Rattle.std.specs.Prelude.{◌≡◌, Result, Ok, Err, string_bytes}
use Rattle.value_data.specs.Inside.View.{view}
use Rattle.repl_values.specs.Inside.FaultView.{failure_of}
use Rattle.repl_values.specs.declared.error.ApplyError.{ApplyError}
use Rattle.repl_values.specs.declared.error.ApplyError.TheVariants as errors
use Rattle.core_functions.specs.ApplyOutcome.{ApplyOutcome, gives, fails}
use Rattle.core_functions.specs.declared.application.Applied.{Applied}

abbrev pub FailsIn : ApplyOutcome → ApplyError → Type 0
FailsIn outcome errors.NoMemory = Unit {0}
FailsIn outcome (errors.Fault f) = outcome ≡ fails (failure_of f)

-- what `apply` returned is the outcome
abbrev pub GivesOutcome : ApplyOutcome → Result Applied ApplyError → Type 0
GivesOutcome outcome (Ok a) = outcome ≡ gives (view a.value) (string_bytes a.text)
GivesOutcome outcome (Err e) = FailsIn outcome e
