-- A journal: the steps that a server accepted, each with its answer.
use Rattle.std.specs.Prelude.{◌≡◌, List, [], ◌∷◌}
use Rattle.server_rules.specs.Ground.{Ground}
use Rattle.server_rules.specs.Plan.{StepAnswer}
use Rattle.server_rules.specs.Machine.World.{World, Step, accepted, step}

-- each element leads from one state to the next
abbrev pub LeadsBy : {S E : Type 0} → (S → E → S → Type 0) → S → List E → S → Type 0
LeadsBy leads s [] now = s ≡ now
LeadsBy {S} leads s (e ∷ es) now = (after : S) × leads s e after × LeadsBy leads after es now

pub record EntryData : Type 0 where
  pub step : Step
  pub answer : StepAnswer

-- the server accepts the step, and answers so
abbrev pub MakesEntry : Ground → World → EntryData → World → Type 0
MakesEntry g w e after = step g w e.step ≡ accepted after e.answer

-- from this server, by these steps, to that
abbrev pub IsJournal : Ground → World → List EntryData → World → Type 0
IsJournal g = LeadsBy (MakesEntry g)
