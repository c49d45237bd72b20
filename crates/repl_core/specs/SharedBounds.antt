-- The bounds of the histories of shared refs.
use Rattle.std.specs.Prelude.{◌≡◌, ℕ, List, Some}
use Rattle.ref_history.specs.Versioned.{Ref}
use Rattle.server_rules.specs.Ground.{Ground}
use Rattle.server_rules.specs.Machine.World.{Step, opened_world, run}
use Rattle.repl_core.specs.Commits.{ref_in_world}
use Rattle.repl_core.specs.Configured.{IsConfigured}
use Rattle.repl_core.specs.Points.{shared_ref}
use Rattle.repl_core.specs.declared.machine.Config.{Config}

-- Whatever steps were made: the history of each shared ref has the bounds 0 and 10.
abbrev pub SharedBoundsAreFixed : Type 0
SharedBoundsAreFixed =
    (g : Ground) (config : Config) (steps : List Step) (number : ℕ) (r : Ref)
    → IsConfigured g config
    → ref_in_world (shared_ref number) (run g (opened_world g) steps) ≡ Some r
    → (r.least ≡ 0) × (r.most ≡ 10)
