-- The steps of a form that asks and of one that ends, and what is promised of the call that makes
-- the second.
use Rattle.std.specs.Prelude.{◌≡◌, ℕ, Bool, true, Result, IfOk, IfErr}
use Rattle.repl_asks.specs.Inside.View.{ask_view}
use Rattle.repl_asks.specs.declared.ask.Ask.{Ask}
use Rattle.repl_walker.specs.Ends.{ending_view}
use Rattle.repl_walker.specs.declared.ending.Ending.{Ending}
use Rattle.server_rules.specs.Ground.{Ground}
use Rattle.server_rules.specs.Grounds.{IsRight}
use Rattle.server_rules.specs.Machine.World.{World, Step, does}
use Rattle.server_rules.specs.Plan.{StepAnswer, asks_for, ends}
use Rattle.server_rules.specs.declared.actor.Actor.{Actor}
use Rattle.server_rules.specs.declared.refusal.Refusal.{Refusal}
use Rattle.repl_core.specs.Kept.{EndsAsKept}
use Rattle.repl_core.specs.Standing.{MachineStands}
use Rattle.repl_core.specs.Steps.{AcceptsStep, RefusesStep}
use Rattle.repl_core.specs.declared.machine.Machine.{Machine}

-- the form of an actor asks this
abbrev pub ask_step : ℕ → Actor → Ask → Step
ask_step t a ask = does t (asks_for a (ask_view ask))

-- the form of an actor has ended so
abbrev pub end_step : ℕ → Actor → Ending → Step
end_step t a ending = does t (ends a (ending_view ending))

-- For every server for which the machine stood. Where the ending is known, it is that of the form
-- which the machine keeps.

-- where the call succeeds the step is accepted, and this is its answer
abbrev pub DoesIfKnown : {A E : Type 0} → Bool → Step → Machine → Machine → Result A E
    → (A → StepAnswer) → Type 0
DoesIfKnown is_known s old new result answer = (g : Ground) (w : World) → IsRight g
    → MachineStands g old w → (is_known ≡ true → EndsAsKept w s)
    → IfOk result (λ x. AcceptsStep g w s new (answer x))

-- where it fails the step is refused so, unless for want of memory, and nothing has changed
abbrev pub DeclinesIfKnown : {A : Type 0} → Bool → Step → Machine → Machine → Result A Refusal
    → Type 0
DeclinesIfKnown is_known s old new result = (g : Ground) (w : World) → IsRight g
    → MachineStands g old w → (is_known ≡ true → EndsAsKept w s)
    → IfErr result (RefusesStep g w s new)
