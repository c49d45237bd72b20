-- The evaluations by the names of their actors.
use Rattle.std.specs.Prelude.{Option, Some, None, ⊤, option_and_then}
use Rattle.std.specs.BTreeMap.{get}
use Rattle.repl_walker.specs.declared.steps.Reached.{Reached}
use Rattle.server_rules.specs.contracts.actor.ActorOrd.TheImpl as order
use Rattle.server_rules.specs.declared.actor.Actor.{Actor}
use Rattle.repl_core.specs.declared.walks.Walks.{Walks}

-- that of the form of this actor, if there is one
abbrev pub walk_at : Walks → Actor → Option Reached
walk_at walks a = option_and_then (λ place. place.value) (get (order.ghosts).cmp walks.live a)

-- there is one, and it asks
abbrev pub IsAsking : Option Reached → Type 0
IsAsking (Some (Reached.Asks w k)) = ⊤
IsAsking (Some (Reached.Ends e)) = ⊥
IsAsking None = ⊥

-- there is one, and it has ended
abbrev pub IsEnded : Option Reached → Type 0
IsEnded (Some (Reached.Asks w k)) = ⊥
IsEnded (Some (Reached.Ends e)) = ⊤
IsEnded None = ⊥
