-- The headline's other half, of a list of turns: attempts that agree see the same.
use Rattle.std.specs.Prelude.{ℕ, List, take}
use Rattle.server_rules.specs.Ground.{Ground}
use Rattle.server_rules.specs.Machine.Turns.{Turn}
use Rattle.server_rules.specs.Machine.World.{Step, opened_world, run}
use Rattle.server_rules.specs.declared.actor.Actor.{Actor}
use Rattle.repl_core.specs.Driving.{world_after_all}
use Rattle.repl_core.specs.HonestRuns.{AreHonest}
use Rattle.repl_core.specs.AttemptsInRuns.{AttemptsAgree}

-- An attempt that is under way behind some of these turns, and one in any other run of such a
-- server, by whatever steps of whatever tenants, of an actor that was honest.
abbrev pub AgreesWithAnyRun : Ground → List Turn → Type 0
AgreesWithAnyRun g turns =
    (n : ℕ) (steps : List Step) (t u : ℕ) (a b : Actor)
    → let start = opened_world g in
    AreHonest g start u b steps
    → AttemptsAgree g (world_after_all g start (take n turns)) t a (run g start steps) u b
