-- What a journal tells of the form that an actor runs: its job, and what it asked and was answered.
use Rattle.std.specs.Prelude.{◌≡◌, ℕ, ⊤, List, [], ◌∷◌, Option, Some, None}
use Rattle.repl_asks.specs.Job.{EndingData}
use Rattle.server_rules.specs.Ground.{Ground}
use Rattle.server_rules.specs.Machine.World.{World, Step, opens, does, closes}
use Rattle.server_rules.specs.Plan.{Deed, hears, starts, asks_for, ends, drains}
use Rattle.server_rules.specs.Request.{Run}
use Rattle.server_rules.specs.declared.actor.Actor.{Actor}
use Rattle.repl_core.specs.AttemptsUnderWay.{form_in}
use Rattle.repl_core.specs.Forms.{form_by_step}
use Rattle.journal_book.specs.Journal.{EntryData}

-- entry by entry, from what was told before
abbrev pub form_told_from : ℕ → Actor → Option Run → List EntryData → Option Run
form_told_from t a form [] = form
form_told_from t a form (e ∷ es) =
    form_told_from t a (form_by_step t a e.step e.answer form) es

abbrev pub form_told : ℕ → Actor → List EntryData → Option Run
form_told t a = form_told_from t a None

-- whatever form runs, it is the one of which the journal tells
abbrev pub TellsForms : Ground → World → List EntryData → Type 0
TellsForms g w journal = (t : ℕ) (a : Actor) (form : Run)
    → form_in t a w ≡ Some form → form_told t a journal ≡ Some form

-- the form as its ending has it
abbrev pub form_of : EndingData → Run
form_of e = record { job = e.job; trace = e.trace }

abbrev pub EndsAsToldBy : List EntryData → ℕ → Deed → Type 0
EndsAsToldBy journal t (ends a e) = form_told t a journal ≡ Some (form_of e)
EndsAsToldBy journal t (starts a) = ⊤
EndsAsToldBy journal t (asks_for a ask) = ⊤
EndsAsToldBy journal t (hears piece) = ⊤
EndsAsToldBy journal t drains = ⊤

-- a step that ends a form ends the one of which the journal tells; of other steps this says nothing
abbrev pub EndsAsTold : List EntryData → Step → Type 0
EndsAsTold journal (does t d) = EndsAsToldBy journal t d
EndsAsTold journal (opens t) = ⊤
EndsAsTold journal (closes t) = ⊤
