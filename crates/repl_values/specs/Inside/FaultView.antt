-- What the code returns, beside what is meant. Memory may run out at any call, and then nothing is
-- said.
use Rattle.std.specs.Prelude.{◌≡◌, Result, Ok, Err}
use Rattle.std.specs.Arc.{arc_str_bytes}
use Rattle.repl_values.specs.declared.fault.Fault.{Fault}
use Rattle.repl_values.specs.Failure.{Failure}
use Rattle.repl_values.specs.declared.error.ApplyError.{ApplyError}
use Rattle.repl_values.specs.declared.error.ApplyError.TheVariants as errors

abbrev pub failure_of : Fault → Failure
failure_of f = record { class = arc_str_bytes f.class; text = arc_str_bytes f.text }

abbrev pub Fails : {Y : Type 0} → ApplyError → Result Y Failure → Type 0
Fails errors.NoMemory r = Unit {0}
Fails (errors.Fault f) r = r ≡ Err (failure_of f)

-- what a step returned, seen by `see`, is r
abbrev pub Gives : {X Y : Type 0} → (X → Y) → Result X ApplyError → Result Y Failure → Type 0
Gives see (Ok x) r = r ≡ Ok (see x)
Gives see (Err e) r = Fails e r
