-- A request is put behind those that wait for an actor, or taken back, and an actor is vacated.
use Rattle.std.specs.Prelude.{ℕ, ◌-◌, List, [], ◌∷◌, ◌++◌, take, length, Option, None, Some}
use Rattle.ref_table.specs.Numbered.{Entry, part_under, with_part}
use Rattle.server_rules.specs.Operating.{with_vacated_seat}
use Rattle.server_rules.specs.Request.{Waiting}
use Rattle.server_rules.specs.Tenant.{ActorData}

-- the actor that is found at a seat changes; where there is none, nothing does
abbrev pub changed_found
    : ℕ → (ActorData → ActorData) → List (Entry ActorData) → Option ActorData
    → List (Entry ActorData)
changed_found seat f es None = es
changed_found seat f es (Some actor) = with_part seat (f actor) es

abbrev pub with_changed_actor
    : ℕ → (ActorData → ActorData) → List (Entry ActorData) → List (Entry ActorData)
with_changed_actor seat f es = changed_found seat f es (part_under seat es)

-- a request waits behind the others
abbrev pub with_request : Waiting → ActorData → ActorData
with_request w actor = record actor { waiting = actor.waiting ++ w ∷ [] }

-- the newest request that waits is taken back
abbrev pub without_newest : ActorData → ActorData
without_newest actor =
    record actor { waiting = take (length actor.waiting - 1) actor.waiting }

-- the actor that is found at a seat leaves; where there is none, nothing changes
abbrev pub vacated_found : ℕ → List (Entry ActorData) → Option ActorData → List (Entry ActorData)
vacated_found seat es None = es
vacated_found seat es (Some actor) = with_vacated_seat seat actor.hand es

abbrev pub vacated_at : ℕ → List (Entry ActorData) → List (Entry ActorData)
vacated_at seat es = vacated_found seat es (part_under seat es)
