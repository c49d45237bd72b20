-- The session that an operation names.
use Rattle.std.specs.Prelude.{◌≡◌, ℕ, List, Option, Some}
use Rattle.repl_replies.specs.Operations.{OperationData, Numbers}
use Rattle.repl_replies.specs.Operations.{clone, close, describe, list_sessions, eval, load_file}

abbrev pub session_of : OperationData → Option ℕ
session_of (clone session) = session
session_of (close number) = Some number
session_of (describe session) = session
session_of (list_sessions session) = session
session_of (eval session text ns) = session
session_of (load_file session text) = session

-- the open session of this number has an id
abbrev pub IsNamed : Numbers → ℕ → Type 0
IsNamed number_of n = (id : List ℕ) × (number_of id ≡ Some n)
