-- A request may name sessions that are open and not leaving.
use Rattle.std.specs.Prelude.{ℕ, List, Option, IsTrue}
use Rattle.std.specs.Option.{ForSome}
use Rattle.repl_sessions.specs.Inside.Leaving.{remaining_sessions}
use Rattle.repl_sessions.specs.Sessions.{SessionsData, is_open}

abbrev pub IsServed : Option ℕ → List ℕ → SessionsData → Type 0
IsServed session leaving s = ForSome session
    (λ n. IsTrue (is_open (remaining_sessions leaving s) n))
