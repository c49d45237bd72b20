-- Sessions that are about to be closed: nothing names them any more.
use Rattle.std.specs.Prelude.{ℕ, ◌==◌, List, filter, Bool, not}
use Rattle.std.specs.List.{list_any}
use Rattle.repl_sessions.specs.Sessions.{SessionsData}
use Rattle.repl_sessions.specs.Named.{NamedSessions}

abbrev pub is_leaving : List ℕ → ℕ → Bool
is_leaving leaving number = list_any (λ n. number == n) leaving

-- the sessions that are not leaving
abbrev pub remaining_sessions : List ℕ → SessionsData → SessionsData
remaining_sessions leaving s =
    record s { live = filter (λ x. not (is_leaving leaving x.number)) s.live }

abbrev pub remaining_named : List ℕ → NamedSessions → NamedSessions
remaining_named leaving s = record s { sessions = remaining_sessions leaving s.sessions }

-- the numbers of those that are not leaving
abbrev pub without_leaving : List ℕ → List ℕ → List ℕ
without_leaving leaving ns = filter (λ n. not (is_leaving leaving n)) ns
