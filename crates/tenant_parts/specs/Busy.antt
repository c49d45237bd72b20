-- Which actors have something to do.
pub use Rattle.server_rules.specs.Machine.Ready.{is_busy}
use Rattle.std.specs.Prelude.{List, Bool, false, filter, map, Option, None, Some}
use Rattle.ref_table.specs.Numbered.{Entry}
use Rattle.server_rules.specs.Tenant.{ActorData, actor_at}
use Rattle.server_rules.specs.declared.actor.Actor.{Actor}

-- the names of those that have something to do, in order
abbrev pub busy_of : List (Entry ActorData) → List Actor
busy_of es = map (λ e. actor_at e.number) (filter (λ e. is_busy e.part) es)

-- the actor that is found, if one is, passes a test
abbrev pub passes : (ActorData → Bool) → Option ActorData → Bool
passes test None = false
passes test (Some actor) = test actor
