-- The form that runs is the one of which the journal tells.
use Rattle.std.proofs.Common.{◌≡◌, ◌∙◌, ℕ, List, [], ◌∷◌, Option, Some, None, sym, ap, subst}
use Rattle.server_rules.specs.Ground.{Ground}
use Rattle.server_rules.specs.Request.{Run}
use Rattle.server_rules.specs.Machine.World.{World, Step, opened_world, opens, does, closes}
use Rattle.server_rules.specs.Plan.{hears, starts, asks_for, ends, drains}
use Rattle.server_rules.specs.declared.actor.Actor.{Actor}
use Rattle.server_rules.proofs.Numbered.{none-some}
use Rattle.repl_core.specs.Forms.{form_by_step}
use Rattle.repl_core.specs.Kept.{EndsAsKept}
use Rattle.repl_core.proofs.FormSteps.{CoversIn, step-tells}
use Rattle.journal_book.specs.Forms.{form_told_from, form_of, TellsForms, EndsAsTold}
use Rattle.journal_book.specs.Journal.{EntryData, IsJournal}

told-from : (g : Ground) (t : ℕ) (a : Actor) (es : List EntryData) (w now : World)
    (form : Option Run) → IsJournal g w es now → CoversIn t a w form
    → CoversIn t a now (form_told_from t a form es)
told-from g t a [] w now form leads covers = subst (λ x. CoversIn t a x form) leads covers
told-from g t a (e ∷ es) w now form leads covers =
    told-from g t a es leads.0 now (form_by_step t a e.step e.answer form) leads.2
    (step-tells g w t a form covers e.step leads.0 e.answer leads.1)

pub tells-forms : (g : Ground) (w : World) (journal : List EntryData)
    → IsJournal g (opened_world g) journal w → TellsForms g w journal
tells-forms g w journal leads t a form is =
    told-from g t a journal (opened_world g) w None leads (λ run here. absurd (none-some here)) form is

-- the ending that the journal tells is the one that the server keeps
pub ends-as-kept : (g : Ground) (w : World) (journal : List EntryData) (s : Step)
    → IsJournal g (opened_world g) journal w → EndsAsTold journal s → EndsAsKept w s
ends-as-kept g w journal (does t (ends a e)) leads told = λ run is.
    let same : Some (form_of e) ≡ Some run = sym told ∙ tells-forms g w journal leads t a run is in
    let one : form_of e ≡ run = cc same in (ap (λ r. r.job) one, ap (λ r. r.trace) one)
ends-as-kept g w journal (does t (starts a)) leads told = tt
ends-as-kept g w journal (does t (asks_for a ask)) leads told = tt
ends-as-kept g w journal (does t (hears piece)) leads told = tt
ends-as-kept g w journal (does t drains) leads told = tt
ends-as-kept g w journal (opens t) leads told = tt
ends-as-kept g w journal (closes t) leads told = tt
