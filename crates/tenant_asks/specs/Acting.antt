-- What an actor's step makes of the actor and of the tenant's memory, beside what the rules make of
-- the tenant.
use Rattle.std.specs.Prelude.{◌≡◌, ◌≢◌, ◌<◌, ℕ, List, Bool, true, false, length, Result, Err, OnErr}
use Rattle.ref_table.specs.Numbered.{Entry, with_part, without}
use Rattle.server_rules.specs.Ground.{Ground}
use Rattle.server_rules.specs.Tenant.{ActorData, TenantState, seat_of}
use Rattle.server_rules.specs.Plan.{StepAnswer, request_interrupted, Outcome, refuses, leaves}
use Rattle.server_rules.specs.Plan.{with_step_spent}
use Rattle.server_rules.specs.declared.actor.Actor.{Actor}
use Rattle.server_rules.specs.declared.refusal.Refusal.{Refusal}
use Rattle.tenant_asks.specs.declared.memory.Remembered.{Remembered}
use Rattle.tenant_parts.specs.Replies.{waiting_bytes}
use Rattle.tenant_asks.specs.Memories.{Remembers, opened_by}

-- the rules do not refuse it
abbrev pub is_accepted : Outcome → Bool
is_accepted (refuses why) = false
is_accepted (leaves after answer) = true

abbrev pub is_interruption : StepAnswer → Bool
is_interruption request_interrupted = true
is_interruption _ = false

-- an actor whose request is interrupted is gone
abbrev pub actors_after : Bool → Actor → ActorData → List (Entry ActorData) → List (Entry ActorData)
actors_after true a actor es = without (seat_of a) es
actors_after false a actor es = with_part (seat_of a) actor es

-- the step is accepted with this answer: so the code has the memory and the actor behind it
pub record AcceptsOutcome (g : Ground) (t : ℕ) (a : Actor) (q : TenantState) (outcome : Outcome)
    (memory : Remembered) (actor : ActorData) (answer : StepAnswer) : Type 0 where
  pub after : TenantState
  pub accepted : outcome ≡ leaves (with_step_spent after) answer
  pub remembers : Remembers g t memory after
  pub actors : after.actors ≡ actors_after (is_interruption answer) a actor q.actors
  pub steps : after.steps ≡ q.steps
  pub heard : after.heard ≡ q.heard

-- the step is refused so, unless for want of memory, and the code's memory is as it was
pub record RefusesOutcome (g : Ground) (t : ℕ) (q : TenantState) (outcome : Outcome) (memory : Remembered)
    (why : Refusal) : Type 0 where
  pub refused : why ≢ Refusal.NoMemory → outcome ≡ refuses why
  pub remembers : Remembers g t memory q

-- Whatever comes of it: a refused step leaves the actor as it was, no session is made, and it is
-- refused for replies that wait only where there are some.
pub record IsActorStep {A : Type 0} (old new : Remembered) (before after : ActorData)
    (result : Result A Refusal) : Type 0 where
  pub stays : OnErr result (after ≡ before)
  pub opened : opened_by new ≡ opened_by old
  pub held : result ≡ Err Refusal.Held → 0 < length (waiting_bytes old.outbox)
