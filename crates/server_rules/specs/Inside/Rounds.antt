-- Which actors a round may pass over.
use Rattle.std.specs.Prelude.{◌≡◌, ◌<◌, ◌⊎◌, ◌==◌, ◌||◌, List, length, filter, Bool, false, Option}
use Rattle.std.specs.Prelude.{None, Some}
use Rattle.server_rules.specs.Machine.Ready.{is_busy}
use Rattle.ref_table.specs.Numbered.{part_under}
use Rattle.server_rules.specs.Tenant.{ActorData, seat_of}
use Rattle.server_rules.specs.declared.actor.Actor.{Actor}
use Rattle.server_rules.specs.LoneTurns.{LoneTenant, actors_of}

abbrev pub is_some_busy : Option ActorData → Bool
is_some_busy None = false
is_some_busy (Some actor) = is_busy actor

-- whether the actor of this name is there and has something to do; that of agents may always have
abbrev pub is_busy_at : LoneTenant → Actor → Bool
is_busy_at l a =
    (seat_of a == seat_of Actor.Agents) || is_some_busy (part_under (seat_of a) l.state.actors)

-- those that have something to do, in the order of their rounds
abbrev pub busy_actors : LoneTenant → List Actor
busy_actors l = filter (is_busy_at l) (actors_of l)

-- A round of these actors does what a round of all does: they are all, or those that have something
-- to do, and there are more steps than actors of them.
abbrev pub IsEnough : LoneTenant → List Actor → Type 0
IsEnough l actors =
    (actors ≡ actors_of l) ⊎ ((actors ≡ busy_actors l) × (length actors < l.state.steps))
