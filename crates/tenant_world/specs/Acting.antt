-- What an actor's step makes of the actor, beside what the rules make of the tenant.
use Rattle.std.specs.Prelude.{List, [], ◌∷◌, Bool, true, false, Option, None, Some}
use Rattle.ref_table.specs.Numbered.{Entry, without}
use Rattle.server_rules.specs.Request.{Waiting, WorkInHand}
use Rattle.server_rules.specs.Tenant.{ActorData, seat_of}
use Rattle.server_rules.specs.declared.actor.Actor.{Actor}

-- behind its step an actor is gone, or it stays as it is
abbrev pub left_after : Bool → Actor → List (Entry ActorData) → List (Entry ActorData)
left_after true a es = without (seat_of a) es
left_after false a es = es

-- the request that waits longest, and those behind it
abbrev pub oldest : List Waiting → Option Waiting
oldest [] = None
oldest (w ∷ ws) = Some w

abbrev pub younger : List Waiting → List Waiting
younger [] = []
younger (w ∷ ws) = ws

-- the oldest request waits no longer, and what is in hand is this
abbrev pub with_next_in_hand : Option WorkInHand → ActorData → ActorData
with_next_in_hand hand actor = record actor { waiting = younger actor.waiting; hand = hand }
