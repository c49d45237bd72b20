-- A step that was made is written down with one entry.
use Rattle.std.proofs.Common.{◌≡◌, ◌∙◌, ℕ, List, [], ◌∷◌, ◌++◌, Some, refl, sym, ap, subst}
use Rattle.std.specs.Prelude.{unwrap_or, Box}
use Rattle.std.specs.Global.{Global}
use Rattle.repl_asks.specs.Inside.Jobs.{finished_view}
use Rattle.repl_asks.specs.declared.job.Finished.{Finished}
use Rattle.repl_walker.specs.Ends.{ending_view}
use Rattle.repl_walker.specs.declared.ending.Ending.{Ending}
use Rattle.tenant_world.specs.Answers.{end_answer_view}
use Rattle.tenant_world.specs.declared.answers.EndAnswer.{EndAnswer}
use Rattle.repl_asks.specs.Job.{EndData, EndingData}
use Rattle.server_rules.specs.Ground.{Ground}
use Rattle.server_rules.specs.Plan.{StepAnswer, ends, form_finished}
use Rattle.server_rules.specs.Machine.World.{Step, does}
use Rattle.server_rules.specs.Request.{Run}
use Rattle.server_rules.specs.declared.actor.Actor.{Actor}
use Rattle.server_rules.specs.declared.refusal.Refusal.{Refusal}
use Rattle.repl_core.specs.Configured.{IsConfigured}
use Rattle.repl_core.specs.Steps.{AcceptsStep, RefusesStep}
use Rattle.repl_core.specs.declared.machine.Config.{Config}
use Rattle.repl_core.specs.declared.machine.Machine.{Machine}
use Rattle.journal_book.specs.Forms.{form_told}
use Rattle.journal_book.specs.Journal.{EntryData}
use Rattle.journal_book.specs.Standing.{KeepsJournal, KeepsFor, IsWritten, IsRefusedBehind, entry_of}
use Rattle.journal_book.specs.View.{entry_in, entries, entries_behind, run_ended, no_form}
use Rattle.journal_book.specs.declared.entry.JournalEntry.{JournalEntry}
use Rattle.journal_book.proofs.EndsTold.{told-end}
use Rattle.journal_book.proofs.FormsTold.{tells-forms}
use Rattle.journal_book.proofs.Keeping.{keeps-on, keeps-still, answered-so, refused-so}

pub one-more : (said : List EntryData) (es : List JournalEntry) (e : JournalEntry)
    → entries_behind said (es ++ e ∷ [])
    ≡ entries_behind said es ++ entry_in (entries_behind said es) e ∷ []
one-more said [] e = refl
one-more said (x ∷ es) e = one-more (said ++ entry_in said x ∷ []) es e

-- the entry says the step and its answer, behind those before it
abbrev pub Says : List JournalEntry → JournalEntry → Step → StepAnswer → Type 0
Says before e s answer = entry_in (entries before) e ≡ entry_of s answer

written-so : (before after : List JournalEntry) (e : JournalEntry) (s : Step) (answer : StepAnswer)
    → after ≡ before ++ e ∷ [] → Says before e s answer
    → entries after ≡ entries before ++ entry_of s answer ∷ []
written-so before after e s answer is says =
    ap entries is ∙ one-more [] before e ∙ ap (λ d. entries before ++ d ∷ []) says

-- the machine makes the step for whatever it stands on
abbrev pub Makes : Config → Machine → Machine → List JournalEntry → Step → StepAnswer → Type 0
Makes config old new before s answer = (g : Ground) → IsConfigured g config
    → (k : KeepsJournal g old (entries before)) → AcceptsStep g k.world s new answer

module _ (config : Config) (old new : Machine) (before after : List JournalEntry) (e : JournalEntry) (s : Step)
    (answer : StepAnswer) (keeps : KeepsFor config old (entries before))
    (is : after ≡ before ++ e ∷ []) (says : Says before e s answer)
    (makes : Makes config old new before s answer) where
  pub keeps-written : KeepsFor config new (entries after)
  keeps-written = (
    keeps.0,
    λ g conf.
        let k = keeps.1 g conf in
        keeps-on g old new (entries before) (entries after) s answer answer k (makes g conf k) refl
        (written-so before after e s answer is says),
  )

  pub is-written : IsWritten config before after s answer
  is-written = (
    written-so before after e s answer is says,
    λ g w conf leads.
        let k = keeps.1 g conf in
        answered-so g old new (entries before) s answer k (makes g conf k) w leads,
  )

-- the machine refuses the step for whatever it stands on
abbrev pub Refuses : Config → Machine → Machine → List JournalEntry → Step → Refusal → Type 0
Refuses config old new before s why = (g : Ground) → IsConfigured g config
    → (k : KeepsJournal g old (entries before)) → RefusesStep g k.world s new why

module _ (config : Config) (old new : Machine) (before : List JournalEntry) (s : Step) (why : Refusal)
    (keeps : KeepsFor config old (entries before))
    (refuses : Refuses config old new before s why) where
  pub keeps-unwritten : (after : List JournalEntry) → after ≡ before → KeepsFor config new (entries after)
  keeps-unwritten after is = (
    keeps.0,
    λ g conf.
        let k = keeps.1 g conf in
        subst (λ es. KeepsJournal g new (entries es)) (sym is)
        (keeps-still g old new (entries before) s why k (refuses g conf k)),
  )

  pub is-refused : IsRefusedBehind config (entries before) s why
  is-refused other g w conf leads =
      let k = keeps.1 g conf in
      refused-so g old new (entries before) s why k (refuses g conf k) other w leads

-- nothing was made
pub keeps-same : (config : Config) (m : Machine) (before after : List JournalEntry)
    → KeepsFor config m (entries before) → after ≡ before → KeepsFor config m (entries after)
keeps-same config m before after keeps is = subst (λ es. KeepsFor config m (entries es)) (sym is) keeps

-- an end says its whole ending: what went before tells the rest
pub says-end : (config : Config) (old new : Machine) (before : List JournalEntry) (t : ℕ) (a : Actor)
    (ending : EndingData) (end : EndData) → KeepsFor config old (entries before)
    → Makes config old new before (does t (ends a ending)) form_finished → end ≡ ending.end
    → entry_of (does t (ends a (run_ended (unwrap_or (form_told t a (entries before)) no_form) end)))
    form_finished ≡ entry_of (does t (ends a ending)) form_finished
says-end config old new before t a ending end keeps makes same =
    let g : Ground = keeps.0.0 in
    let conf : IsConfigured g config = keeps.0.1 in
    let k = keeps.1 g conf in
    let made = makes g conf k in
    let run : Run = record { job = ending.job; trace = ending.trace } in
    let told : form_told t a (entries before) ≡ Some run =
    tells-forms g k.world (entries before) k.leads t a run
    (told-end g k.world made.after t a ending conf.right made.accepted) in
    ap (λ o. entry_of (does t (ends a (run_ended (unwrap_or o no_form) end))) form_finished) told
    ∙ ap (λ x. entry_of (does t (ends a (run_ended run x))) form_finished) same

-- whichever entry is kept of an end, it says the step and its answer
pub says-ended : (config : Config) (old new : Machine) (before : List JournalEntry) (t : ℕ) (a : Actor)
    (noted : Box Finished Global) (ending : Box Ending Global) (answer : EndAnswer) (e : JournalEntry)
    → (answer ≡ EndAnswer.Finished → e ≡ JournalEntry.Ended t a noted)
    → (answer ≡ EndAnswer.Interrupted → e ≡ JournalEntry.Interrupted t a ending)
    → KeepsFor config old (entries before)
    → Makes config old new before (does t (ends a (ending_view ending.value))) (end_answer_view answer)
    → finished_view noted.value ≡ finished_view ending.value.finished
    → Says before e (does t (ends a (ending_view ending.value))) (end_answer_view answer)
says-ended config old new before t a noted ending EndAnswer.Finished e finished interrupted keeps makes
    same =
    ap (entry_in (entries before)) (finished refl)
    ∙ says-end config old new before t a (ending_view ending.value) (finished_view noted.value) keeps
    makes same
says-ended config old new before t a noted ending EndAnswer.Interrupted e finished interrupted keeps
    makes same =
    ap (entry_in (entries before)) (interrupted refl)

-- the same step and the same answer in other words
pub same-written : (config : Config) (before after : List JournalEntry) (s other : Step)
    (answer same : StepAnswer) → other ≡ s → same ≡ answer → IsWritten config before after s answer
    → IsWritten config before after other same
same-written config before after s other answer same step told written =
    subst (λ x. IsWritten config before after x same) (sym step)
    (subst (λ x. IsWritten config before after s x) (sym told) written)

pub same-refused : (config : Config) (before : List EntryData) (s : Step) (why other : Refusal)
    → other ≡ why → IsRefusedBehind config before s why → IsRefusedBehind config before s other
same-refused config before s why other same refused =
    subst (λ x. IsRefusedBehind config before s x) (sym same) refused
