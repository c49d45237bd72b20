-- What the states of the code are seen as.
use Rattle.std.specs.Prelude.{ℕ, List, map}
use Rattle.repl_sessions.specs.Inside.StateView.{state_view}
use Rattle.repl_sessions.specs.Sessions.{SessionData}
use Rattle.repl_sessions.specs.declared.state.SessionState.{SessionState}

-- a number with the state that is kept at it
abbrev pub session_view : ℕ × SessionState → SessionData
session_view e = record { number = e.0; state = state_view e.1 }

abbrev pub live_view : List (ℕ × SessionState) → List SessionData
live_view es = map session_view es
