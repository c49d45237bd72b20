-- What the calls of a machine promise of a step, for every server for which the machine stands
-- before.
use Rattle.std.specs.Prelude.{◌≡◌, ◌<◌, ℕ, Bool, true, Result, Err, IfOk, OnOk, IfErr}
use Rattle.server_rules.specs.Ground.{Ground}
use Rattle.server_rules.specs.Grounds.{IsRight}
use Rattle.server_rules.specs.Machine.Turns.{goes, step_of, turn_step}
use Rattle.server_rules.specs.Machine.World.{World, Step, step}
use Rattle.server_rules.specs.Plan.{StepAnswer}
use Rattle.server_rules.specs.declared.actor.Actor.{Actor}
use Rattle.server_rules.specs.declared.refusal.Refusal.{Refusal}
use Rattle.repl_core.specs.Going.{AreWalkedIn, AcceptsHonestStep, RefusesHonestStep, is_seen_step}
use Rattle.repl_core.specs.Grounds.{Evaluates}
use Rattle.repl_core.specs.Kept.{EndsAsKept}
use Rattle.repl_core.specs.Left.{steps_at}
use Rattle.repl_core.specs.Standing.{MachineStands, open_in}
use Rattle.repl_core.specs.Steps.{AcceptsStep, RefusesStep, is_accepted_step}
use Rattle.repl_core.specs.declared.machine.Machine.{Machine}
use Rattle.repl_core.specs.declared.walks.Walks.{Walks}

-- where the call succeeds, the step is accepted, and this is its answer
abbrev pub DoesStep : {A E : Type 0} → Step → Machine → Machine → Result A E
    → (A → StepAnswer) → Type 0
DoesStep s old new result answer = (g : Ground) (w : World) → IsRight g → MachineStands g old w
    → IfOk result (λ x. AcceptsStep g w s new (answer x))

-- where it fails, the step is refused so, unless for want of memory, and nothing has changed
abbrev pub DeclinesStep : {A : Type 0} → Step → Machine → Machine → Result A Refusal → Type 0
DeclinesStep s old new result = (g : Ground) (w : World) → IsRight g → MachineStands g old w
    → IfErr result (RefusesStep g w s new)

-- memory is refused only where the step is accepted
abbrev pub StepLacksMemory : {A : Type 0} → Step → Machine → Result A Refusal → Type 0
StepLacksMemory s old result = (g : Ground) (w : World) → IsRight g → MachineStands g old w
    → result ≡ Err Refusal.NoMemory → is_accepted_step (step g w s) ≡ true

-- the same, where a commit can still be counted
abbrev pub CountedLacksMemory : {A : Type 0} → Step → Machine → Type 0 → Result A Refusal → Type 0
CountedLacksMemory s old can_count result = (g : Ground) (w : World) → IsRight g
    → MachineStands g old w → can_count → result ≡ Err Refusal.NoMemory
    → is_accepted_step (step g w s) ≡ true

-- The same of a call whose error has more than why.

abbrev pub DeclinesStepBy : {A E : Type 0} → Step → Machine → Machine → Result A E
    → (E → Refusal) → Type 0
DeclinesStepBy s old new result why = (g : Ground) (w : World) → IsRight g → MachineStands g old w
    → IfErr result (λ e. RefusesStep g w s new (why e))

abbrev pub CountedLacksMemoryBy : {A E : Type 0} → Step → Machine → Type 0 → Result A E
    → (E → Refusal) → Type 0
CountedLacksMemoryBy s old can_count result why = (g : Ground) (w : World) → IsRight g
    → MachineStands g old w → can_count
    → IfErr result (λ e. why e ≡ Refusal.NoMemory → is_accepted_step (step g w s) ≡ true)

-- The same of a step that, where it ends a form, ends it by the job and the trace that are kept.

abbrev pub DoesKnown : {A E : Type 0} → Step → Machine → Machine → Result A E
    → (A → StepAnswer) → Type 0
DoesKnown s old new result answer = (g : Ground) (w : World) → IsRight g → MachineStands g old w
    → EndsAsKept w s → IfOk result (λ x. AcceptsStep g w s new (answer x))

abbrev pub DeclinesKnown : {A : Type 0} → Step → Machine → Machine → Result A Refusal → Type 0
DeclinesKnown s old new result = (g : Ground) (w : World) → IsRight g → MachineStands g old w
    → EndsAsKept w s → IfErr result (RefusesStep g w s new)

abbrev pub KnownLacksMemory : {A : Type 0} → Step → Machine → Result A Refusal → Type 0
KnownLacksMemory s old result = (g : Ground) (w : World) → IsRight g → MachineStands g old w
    → EndsAsKept w s → result ≡ Err Refusal.NoMemory → is_accepted_step (step g w s) ≡ true

-- The same of an actor that goes on as its evaluation says. The evaluations of its tenant's forms
-- are lent before and behind it.

abbrev pub GoesOn : ℕ → Actor → Machine → Walks → Machine → Walks → Result (Unit {0}) Refusal
    → Type 0
GoesOn t a old walks_old new walks_new result =
    (g : Ground) (w : World) → IsRight g → Evaluates g → MachineStands g old w
    → AreWalkedIn walks_old (open_in t w)
    → OnOk result (AcceptsHonestStep g w t a new walks_new)

abbrev pub DeclinesToGo : ℕ → Actor → Machine → Walks → Machine → Walks
    → Result (Unit {0}) Refusal → Type 0
DeclinesToGo t a old walks_old new walks_new result =
    (g : Ground) (w : World) → IsRight g → Evaluates g → MachineStands g old w
    → AreWalkedIn walks_old (open_in t w)
    → IfErr result (RefusesHonestStep g w t a new walks_new)

-- where a commit can still be counted, and what the form does is known, memory is refused only
-- where the turn is accepted
abbrev pub GoingLacksMemory : ℕ → Actor → Machine → Walks → Type 0 → Bool
    → Result (Unit {0}) Refusal → Type 0
GoingLacksMemory t a old walks_old can_count is_known result =
    (g : Ground) (w : World) → IsRight g → Evaluates g → MachineStands g old w
    → AreWalkedIn walks_old (open_in t w)
    → can_count → result ≡ Err Refusal.NoMemory
    → is_seen_step is_known (step_of g w (goes t a)) ≡ true
    → is_accepted_step (turn_step g w (goes t a)) ≡ true

-- where a commit can still be counted, memory is refused only to a tenant that has a step left
abbrev pub LacksNoStep : ℕ → Machine → Type 0 → Result (Unit {0}) Refusal → Type 0
LacksNoStep t old can_count result =
    can_count → result ≡ Err Refusal.NoMemory → 0 < steps_at t old
