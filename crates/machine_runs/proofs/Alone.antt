-- A tenant that names no shared ref is served as if its turns were alone.
use Rattle.std.proofs.Common.{◌≡◌, ◌∙◌, ℕ, List, [], refl, sym}
use Rattle.server_rules.specs.Ground.{Ground}
use Rattle.server_rules.specs.Isolation.Privacy.{FirstOpen, Private}
use Rattle.server_rules.specs.Machine.Turns.{Turn, serve, turns_of_tenant}
use Rattle.server_rules.specs.Machine.World.{opened_world}
use Rattle.server_rules.proofs.Alone.{before-alone}
use Rattle.machine_runs.specs.Alone.{IsServedAlone, GivesTheSame}
use Rattle.machine_runs.specs.Driven.{IsDriven}
use Rattle.machine_runs.specs.declared.outputs.Outputs.{Outputs}

own-turns : (g : Ground) (turns : List Turn) (t : ℕ) → FirstOpen g (opened_world g) turns t
    → Private g (opened_world g) turns t
    → serve g (opened_world g) turns t ≡ serve g (opened_world g) (turns_of_tenant t turns) t
own-turns g turns t first private =
    before-alone g t turns (opened_world g) (opened_world g) (λ n. tt) (λ n. tt) refl refl first private

pub driven-alone : (g : Ground) (turns : List Turn) (o : Outputs)
    → IsDriven g (opened_world g) turns o → IsServedAlone g (opened_world g) turns o
driven-alone g turns o driven = λ t first private. driven.served t ∙ own-turns g turns t first private

pub given-same : (g : Ground) (turns : List Turn) (t : ℕ) → GivesTheSame g (opened_world g) turns t
given-same g turns t = λ among alone first private all own.
    driven-alone g turns among all t first private ∙ sym (own.served t)
