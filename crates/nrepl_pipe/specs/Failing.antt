-- Which reads and writes fail, and which results tell it.
use Rattle.std.specs.Prelude.{◌≡◌, ℕ, zero, suc, Bool, true, false, ◌||◌, ⊤, Option, None, Some}
use Rattle.std.specs.Prelude.{Result, Ok, Err}
use Rattle.nrepl_pipe.specs.declared.ends.PipeError.{PipeError}

-- a read fails where it answers an error
abbrev pub read_fails : {E : Type 0} → Result ℕ E → Bool
read_fails (Ok n) = false
read_fails (Err error) = true

-- a write fails where it answers an error or takes nothing
abbrev pub write_fails : {E : Type 0} → Result ℕ E → Bool
write_fails (Ok zero) = true
write_fails (Ok (suc n)) = false
write_fails (Err error) = true

-- a call has failed by now where one had failed before or one failed since, as far as that is known
abbrev pub MarksFailure : Option Bool → Option Bool → Bool → Type 0
MarksFailure None now since = ⊤
MarksFailure (Some before) None since = ⊥
MarksFailure (Some before) (Some now) since = now ≡ (before || since)

abbrev pub is_read_failed : {A : Type 0} → Result A PipeError → Bool
is_read_failed (Err PipeError.ReadFailed) = true
is_read_failed _ = false

abbrev pub is_write_failed : {A : Type 0} → Result A PipeError → Bool
is_write_failed (Err PipeError.WriteFailed) = true
is_write_failed _ = false

-- the shared text has a fault: no stream was begun
abbrev pub is_text_fault : {A : Type 0} → Result A PipeError → Bool
is_text_fault (Err (PipeError.SharedText fault)) = true
is_text_fault _ = false

-- `ReadFailed` is answered where a read failed, `WriteFailed` where a write failed, and neither
-- elsewhere
abbrev pub TellsFailures : {A : Type 0} → Option Bool → Option Bool → Option Bool → Option Bool
    → Result A PipeError → Type 0
TellsFailures read_before read_now write_before write_now result =
    MarksFailure read_before read_now (is_read_failed result)
    × MarksFailure write_before write_now (is_write_failed result)
