-- Errors, as the code takes them apart.
use Rattle.std.specs.Prelude.{Bool, true, false, Result, Ok, Err}
use Rattle.tx_attempt.specs.declared.error.SetError.{SetError}

-- whether a ref was not set, for it was commuted before
abbrev pub is_refused : Result (Unit {0}) SetError → Bool
is_refused (Ok done) = false
is_refused (Err SetError.NoMemory) = false
is_refused (Err SetError.Commuted) = true
