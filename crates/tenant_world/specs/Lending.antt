-- The state of an actor is lent to a step of it.
use Rattle.std.specs.Prelude.{◌≡◌, Bool, true, false, Option, None, Some, Result, if◌then◌else◌}
use Rattle.std.specs.Borrow.{LendsSoOk, MutBor, Fml}
use Rattle.ref_table.specs.Numbered.{with_part}
use Rattle.server_rules.specs.Tenant.{ActorData, seat_of}
use Rattle.server_rules.specs.declared.actor.Actor.{Actor}
use Rattle.server_rules.specs.declared.refusal.Refusal.{Refusal}
use Rattle.tenant_parts.specs.Busy.{is_busy}
use Rattle.tenant_parts.specs.View.{actor_view, actors_view}
use Rattle.tenant_parts.specs.contracts.actor.ActorState as state
use Rattle.tenant_parts.specs.contracts.actors.Actors as actors
use Rattle.tenant_parts.specs.declared.actor.ActorState.{ActorState}
use Rattle.tenant_parts.specs.declared.actors.Actors.{Actors}

-- an actor with nothing to do makes no step; of that of agents this is not asked here
abbrev pub unless_busy : Actor → ActorData → Option Refusal
unless_busy Actor.Agents actor = None
unless_busy a actor = if is_busy actor then None else Some Refusal.Idle

-- why no step is made of the actor that is found, if none is, where no step is left or some are
abbrev pub unlent : Actor → Bool → Option ActorData → Option Refusal
unlent a true found = Some Refusal.Worn
unlent a false None = Some Refusal.NoSuchActor
unlent a false (Some actor) = unless_busy a actor

-- the actor is as it was left behind the reference, and all others are as they were
abbrev pub LendsState : MutBor Actors → Actor → Result (MutBor ActorState) Refusal → Fml
LendsState s a r = LendsSoOk actors.the_row state.the_row s r
    (λ n left. actors_view n ≡ with_part (seat_of a) (actor_view left) (actors_view s.now))
    (λ n. actors_view n ≡ actors_view s.now)
