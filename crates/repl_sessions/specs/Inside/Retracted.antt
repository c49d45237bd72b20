-- The newest session is taken back, as if it had not been made.
use Rattle.std.specs.Prelude.{ℕ, zero, suc}
use Rattle.repl_sessions.specs.Sessions.{SessionsData, without_session}

-- the session of this number and one is the next
abbrev pub retracted_to : ℕ → SessionsData → SessionsData
retracted_to zero s = s
retracted_to (suc number) s = record (without_session s number) { opened = number }

abbrev pub without_newest_session : SessionsData → SessionsData
without_newest_session s = retracted_to s.opened s
