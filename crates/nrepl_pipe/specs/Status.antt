-- The exit status of the command `pipe`.
use Rattle.std.specs.Prelude.{ℕ, Result, Ok, Err}
use Rattle.nrepl_pipe.specs.declared.ends.PipeEnd.{PipeEnd}
use Rattle.nrepl_pipe.specs.declared.ends.PipeError.{PipeError}

-- 0 where the input was whole messages and all was answered, 2 where the shared text has a fault,
-- else 1
abbrev pub status_of : Result PipeEnd PipeError → ℕ
status_of (Ok PipeEnd.Whole) = 0
status_of (Err (PipeError.SharedText fault)) = 2
status_of _ = 1
