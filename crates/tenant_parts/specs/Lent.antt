-- An actor is lent, to be changed in its place.
use Rattle.std.specs.Prelude.{◌≡◌, ℕ, ◌<◌, List, [], ◌∷◌, ⊤, Option, Some, None, true}
use Rattle.std.specs.Borrow.{LendsSo, MutBor, Fml}
use Rattle.ref_table.specs.Numbered.{Entry, with_part}
use Rattle.server_rules.specs.Tenant.{ActorData, seat_of}
use Rattle.server_rules.specs.declared.actor.Actor.{Actor}
use Rattle.tenant_parts.specs.Busy.{is_busy}
use Rattle.tenant_parts.specs.View.{actor_view, actors_view}
use Rattle.tenant_parts.specs.contracts.actor.ActorState as state
use Rattle.tenant_parts.specs.contracts.actors.Actors as actors
use Rattle.tenant_parts.specs.declared.actor.ActorState.{ActorState}
use Rattle.tenant_parts.specs.declared.actors.Actors.{Actors}

-- if it is there, it has something to do
abbrev pub IsBusyIfThere : Option ActorData → Type 0
IsBusyIfThere None = ⊤
IsBusyIfThere (Some actor) = is_busy actor ≡ true

-- that of agents may be lent also where it has nothing to do
abbrev pub MayBeLent : Actor → Option ActorData → Type 0
MayBeLent Actor.Agents found = ⊤
MayBeLent a found = IsBusyIfThere found

-- the actor of this name is as it was left behind the reference, and all others are as they were
abbrev pub LendsActor : MutBor Actors → Actor → Option (MutBor ActorState) → Fml
LendsActor s a r = LendsSo actors.the_row state.the_row s r
    (λ n left. actors_view n ≡ with_part (seat_of a) (actor_view left) (actors_view s.now))
    (λ n. actors_view n ≡ actors_view s.now)

-- the seats ascend
abbrev pub AreAbove : ℕ → List (Entry ActorData) → Type 0
AreAbove seat [] = ⊤
AreAbove seat (e ∷ es) = (seat < e.number) × AreAbove seat es

abbrev pub ActorsAscend : List (Entry ActorData) → Type 0
ActorsAscend [] = ⊤
ActorsAscend (e ∷ es) = AreAbove e.number es × ActorsAscend es
