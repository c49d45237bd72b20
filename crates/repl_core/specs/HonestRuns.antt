-- An honest actor in a run of a server: what its forms ask is what their evaluations ask.
use Rattle.std.specs.Prelude.{◌≡◌, ℕ, List, [], ◌∷◌, ⊤, Some}
use Rattle.repl_asks.specs.Exchange.{AskData}
use Rattle.repl_asks.specs.Leading.{AreItsAsks}
use Rattle.server_rules.specs.Ground.{Ground}
use Rattle.server_rules.specs.Request.{Run}
use Rattle.server_rules.specs.Plan.{asks_for}
use Rattle.server_rules.specs.Isolation.Privacy.{IsAccepted}
use Rattle.server_rules.specs.Machine.Turns.{goes, step_of}
use Rattle.server_rules.specs.Machine.World.{World, Step, does, step, world_or, opened_world, run}
use Rattle.server_rules.specs.declared.actor.Actor.{Actor}
use Rattle.repl_core.specs.AttemptsUnderWay.{form_in}

-- Where the step is an ask of this actor and is accepted, it is the one with which the actor's
-- evaluation goes on.
abbrev pub AsksHonestly : Ground → World → ℕ → Actor → Step → Type 0
AsksHonestly g w t a s =
    (ask : AskData) → s ≡ does t (asks_for a ask) → IsAccepted (step g w s)
    → step_of g w (goes t a) ≡ s

-- so it is with all these steps, from this server on
abbrev pub AreHonest : Ground → World → ℕ → Actor → List Step → Type 0
AreHonest g w t a [] = ⊤
AreHonest g w t a (s ∷ ss) =
    AsksHonestly g w t a s × AreHonest g (world_or w (step g w s)) t a ss

-- Whatever others did: each ask of an honest actor's form that runs is what its evaluation asked
-- next, after the answers before it.
abbrev pub HonestFormsAskAsEvaluated : Type 0
HonestFormsAskAsEvaluated =
    (g : Ground) (steps : List Step) (t : ℕ) (a : Actor) (form : Run)
    → AreHonest g (opened_world g) t a steps
    → form_in t a (run g (opened_world g) steps) ≡ Some form
    → AreItsAsks (g.evaluation form.job) form.trace
