-- The headline, of a list of turns: who cannot tell that others were served.
use Rattle.std.specs.Prelude.{◌≡◌, ℕ, List}
use Rattle.server_rules.specs.Ground.{Ground}
use Rattle.server_rules.specs.Isolation.Privacy.{FirstOpen, Private}
use Rattle.server_rules.specs.Machine.Turns.{Turn, serve, turns_of_tenant}
use Rattle.server_rules.specs.Machine.World.{World}
use Rattle.machine_runs.specs.Driven.{IsDriven}
use Rattle.machine_runs.specs.Turns.{drained_of}
use Rattle.machine_runs.specs.declared.outputs.Outputs.{Outputs}

-- A tenant whose first Open was accepted, and whose asks name no shared ref, was given, byte for
-- byte, what its own turns alone serve.
abbrev pub IsServedAlone : Ground → World → List Turn → Outputs → Type 0
IsServedAlone g w turns o =
    (t : ℕ) → FirstOpen g w turns t → Private g w turns t
    → drained_of o t ≡ serve g w (turns_of_tenant t turns) t

-- the same of two runs: of all turns, and of one tenant's alone
abbrev pub GivesTheSame : Ground → World → List Turn → ℕ → Type 0
GivesTheSame g w turns t =
    (among alone : Outputs) → FirstOpen g w turns t → Private g w turns t
    → IsDriven g w turns among → IsDriven g w (turns_of_tenant t turns) alone
    → drained_of among t ≡ drained_of alone t
