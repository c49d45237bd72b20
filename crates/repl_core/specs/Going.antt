-- An actor of a tenant goes on as its evaluation says.
use Rattle.std.specs.Prelude.{◌≡◌, ◌≢◌, ℕ, Bool, true, Option, None, Some, ⊤}
use Rattle.server_rules.specs.Ground.{Ground}
use Rattle.server_rules.specs.Plan.{Deed, StepAnswer, hears, starts, asks_for, ends, drains}
use Rattle.server_rules.specs.Machine.Turns.{goes, turn_step}
use Rattle.server_rules.specs.Machine.World as worlds
use Rattle.server_rules.specs.Machine.World.{TenantData, World, opens, does, closes, accepted}
use Rattle.server_rules.specs.Machine.World.{refused}
use Rattle.server_rules.specs.declared.actor.Actor.{Actor}
use Rattle.server_rules.specs.declared.refusal.Refusal.{Refusal}
use Rattle.repl_core.specs.Inside.Seen.{is_seen}
use Rattle.repl_core.specs.Inside.WalkAt.{walk_at}
use Rattle.repl_core.specs.Inside.Walked.{AreWalked}
use Rattle.repl_core.specs.declared.walks.Walks.{Walks}
use Rattle.repl_core.specs.Standing.{open_in, MachineStands}
use Rattle.repl_core.specs.declared.machine.Machine.{Machine}

-- the evaluations are those of the forms of a tenant, if it is open
abbrev pub AreWalkedIn : Walks → Option TenantData → Type 0
AreWalkedIn walks None = ⊤
AreWalkedIn walks (Some kept) = AreWalked (walk_at walks) kept.state

-- a deed by which no form goes on
abbrev pub KeepsForms : Deed → Type 0
KeepsForms (hears piece) = ⊤
KeepsForms drains = ⊤
KeepsForms (starts a) = ⊥
KeepsForms (asks_for a ask) = ⊥
KeepsForms (ends a e) = ⊥

abbrev pub StepKeepsForms : worlds.Step → Type 0
StepKeepsForms (opens t) = ⊤
StepKeepsForms (does t d) = KeepsForms d
StepKeepsForms (closes t) = ⊤

-- whether it is seen without memory if the step is refused
abbrev pub is_seen_step : Bool → worlds.Step → Bool
is_seen_step kept (does t d) = is_seen kept d
is_seen_step kept _ = true

-- the turn is accepted
pub record AcceptsHonestStep (g : Ground) (w : World) (t : ℕ) (a : Actor) (m : Machine)
    (walks : Walks)
    : Type 0 where
  pub after : World
  pub answer : StepAnswer
  pub accepted : turn_step g w (goes t a) ≡ accepted after answer
  pub stands : MachineStands g m after
  pub walked : AreWalkedIn walks (open_in t after)

-- the turn is refused so, unless for want of memory, and all is as it was
pub record RefusesHonestStep (g : Ground) (w : World) (t : ℕ) (a : Actor) (m : Machine)
    (walks : Walks)
    (why : Refusal) : Type 0 where
  pub refused : why ≢ Refusal.NoMemory → turn_step g w (goes t a) ≡ refused why
  pub stands : MachineStands g m w
  pub walked : AreWalkedIn walks (open_in t w)
