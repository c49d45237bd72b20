-- The code stands for a tenant.
use Rattle.std.specs.Prelude.{◌≡◌, ◌≢◌, ℕ, List, ◌+◌, ◌<◌, length, Result, Err, OnOk, OnErr}
use Rattle.bencode_wire.specs.Inside.Decoder as decoder
use Rattle.server_rules.specs.Ground.{Ground}
use Rattle.server_rules.specs.Readings.{message_limit}
use Rattle.ref_table.specs.Numbered.{part_under, with_part}
use Rattle.server_rules.specs.Tenant.{ActorData, TenantState, seat_of}
use Rattle.server_rules.specs.Plan.{StepAnswer, refuses, leaves}
use Rattle.ref_table.specs.Store.{Store}
use Rattle.server_rules.specs.declared.actor.Actor.{Actor}
use Rattle.server_rules.specs.declared.refusal.Refusal.{Refusal}
use Rattle.tenant_parts.specs.View.{actors_view}
use Rattle.tenant_parts.specs.Replies.{waiting_bytes}
use Rattle.server_rules.specs.DeedResult.{DeedResult}
use Rattle.tenant_parts.specs.Attempts.{Reaches}
use Rattle.tenant_asks.specs.Memories.{Remembers}
use Rattle.tenant_world.specs.declared.tenant.Tenant.{Tenant}

-- the tenant whose store this is
pub record StandsForState (g : Ground) (code : Tenant) (q : TenantState) (s : Store) : Type 0 where
  pub retries : code.retries ≡ g.retries
  pub steps : code.steps ≡ q.steps
  -- the decoder has read all that was heard, and its messages were taken
  pub stream : decoder.DecoderStands message_limit code.decoder q.heard
      (g.readings.stream q.heard).messages
  pub actors : actors_view code.actors ≡ q.actors
  pub remembers : Remembers g s.tenant code.memory q
  pub attempts : Reaches code.attempts s

-- the same but for the memory and the attempts, where the state of this actor was lent and is this
pub record Lends (g : Ground) (a : Actor) (state : ActorData) (code : Tenant) (q : TenantState)
    : Type 0 where
  pub retries : code.retries ≡ g.retries
  pub steps : code.steps ≡ q.steps
  pub stream : decoder.DecoderStands message_limit code.decoder q.heard
      (g.readings.stream q.heard).messages
  pub actors : actors_view code.actors ≡ with_part (seat_of a) state q.actors

-- the deed is accepted with this answer, and the code stands for the tenant behind it
pub record AcceptsDeed (g : Ground) (d : DeedResult) (code : Tenant)
    (answer : StepAnswer) : Type 0 where
  pub after : TenantState
  pub accepted : d.outcome ≡ leaves after answer
  pub stands : StandsForState g code after d.store

-- the deed of an actor, which leaves every other actor as it was
pub record AcceptsDeedBy (g : Ground) (a : Actor) (q : TenantState) (d : DeedResult) (code : Tenant)
    (answer : StepAnswer) : Type 0 where
  pub after : TenantState
  pub accepted : d.outcome ≡ leaves after answer
  pub stands : StandsForState g code after d.store
  pub others : (b : Actor) → seat_of b ≢ seat_of a
      → part_under (seat_of b) after.actors ≡ part_under (seat_of b) q.actors

-- the deed is refused so, unless for want of memory, and the code stands for the tenant as it was
pub record RefusesDeed (g : Ground) (q : TenantState) (s : Store) (d : DeedResult) (code : Tenant)
    (why : Refusal) : Type 0 where
  pub refused : why ≢ Refusal.NoMemory → d.outcome ≡ refuses why
  pub stands : StandsForState g code q s

-- the replies that wait, oldest first, each as its bytes
abbrev pub replies_of : Tenant → List (List ℕ)
replies_of code = waiting_bytes code.memory.outbox

-- An accepted step is used up, and a refused one is not. For replies that wait it is refused only
-- where there are some.
pub record CountsStep {A : Type 0} (old new : Tenant) (result : Result A Refusal) : Type 0 where
  pub steps : OnOk result (old.steps ≡ new.steps + 1)
  pub kept : OnErr result (new.steps ≡ old.steps)
  pub held : result ≡ Err Refusal.Held → 0 < length (replies_of old)
