-- What the book says of its journal, and of a step that it makes.
use Rattle.std.specs.Prelude.{◌≡◌, ◌≢◌, ◌+◌, ◌<◌, ◌^◌, ◌⊎◌, ℕ, List, [], ◌∷◌, ◌++◌, length}
use Rattle.std.specs.Prelude.{Result, IfOk, OnOk, IfErr}
use Rattle.server_rules.specs.Ground.{Ground}
use Rattle.server_rules.specs.Plan.{StepAnswer, tenant_opened}
use Rattle.server_rules.specs.Machine.World.{World, Step, opened_world, accepted, refused, step}
use Rattle.server_rules.specs.Machine.World.{opens}
use Rattle.server_rules.specs.Machine.Turns.{whose_step}
use Rattle.server_rules.specs.declared.refusal.Refusal.{Refusal}
use Rattle.repl_core.specs.Configured.{IsConfigured}
use Rattle.repl_core.specs.Standing.{MachineStands}
use Rattle.repl_core.specs.Steps.{step_view, step_answer_view}
use Rattle.repl_core.specs.declared.machine.Config.{Config}
use Rattle.repl_core.specs.declared.machine.Machine.{Machine}
use Rattle.repl_core.specs.declared.step.Refused.{Refused}
use Rattle.repl_core.specs.declared.step.Step as code
use Rattle.journal_book.specs.Journal.{EntryData, IsJournal}
use Rattle.journal_book.specs.View.{entries, BookData, SeatData, seat_with}
use Rattle.journal_book.specs.declared.book.Receipt.{Receipt}
use Rattle.journal_book.specs.declared.book.TheConstants.{TENANTS}
use Rattle.journal_book.specs.declared.entry.JournalEntry.{JournalEntry}

-- the machine stands for the server to which the journal leads, from one to which nobody came
pub record KeepsJournal (g : Ground) (m : Machine) (journal : List EntryData) : Type 0 where
  pub world : World
  pub leads : IsJournal g (opened_world g) journal world
  pub stands : MachineStands g m world

-- so for whatever a server of this configuration stands on, and there is such
abbrev pub KeepsFor : Config → Machine → List EntryData → Type 0
KeepsFor config m journal =
    ((g : Ground) × IsConfigured g config) × ((g : Ground) → IsConfigured g config
    → KeepsJournal g m journal)

-- the server to which the journal leads accepts the step, and answers so
abbrev pub IsAnswered : Config → List EntryData → Step → StepAnswer → Type 0
IsAnswered config journal s answer = (g : Ground) (w : World) → IsConfigured g config
    → IsJournal g (opened_world g) journal w
    → (after : World) × (step g w s ≡ accepted after answer)

-- the server to which the journal leads refuses the step so, unless for want of memory
abbrev pub IsRefusedBehind : Config → List EntryData → Step → Refusal → Type 0
IsRefusedBehind config journal s why = why ≢ Refusal.NoMemory → (g : Ground) (w : World)
    → IsConfigured g config → IsJournal g (opened_world g) journal w → step g w s ≡ refused why

-- so it is of each server to which the journal of the book leads
abbrev pub HoldsBehind : BookData → (Ground → World → Type 0) → Type 0
HoldsBehind book P = (g : Ground) (w : World) → IsConfigured g book.config
    → IsJournal g (opened_world g) (entries book.journal) w → P g w

-- a step of the seat's tenant, which does not open it
abbrev pub IsOwnStep : SeatData → Step → Type 0
IsOwnStep seat s = (whose_step s ≡ seat.tenant) × (s ≢ opens seat.tenant)

abbrev pub entry_of : Step → StepAnswer → EntryData
entry_of s answer = record { step = s; answer = answer }

-- a book has one entry more, under the same configuration
pub record Notes (old new : BookData) (e : EntryData) : Type 0 where
  pub config : new.config ≡ old.config
  pub journal : entries new.journal ≡ entries old.journal ++ e ∷ []

-- a step was made: it is written down behind the others with this answer, which is that of the
-- server to which they led, and counted on the seat
pub record IsMade
    (old new : BookData) (before after : SeatData) (s : Step) (told : StepAnswer) : Type 0 where
  pub journal : Notes old new (entry_of s told)
  pub answer : IsAnswered old.config (entries old.journal) s told
  pub counted : after ≡ seat_with before.tenant (before.made + 1)
  pub tenants : new.tenants ≡ old.tenants

-- a step was not made: the server to which the journal leads refuses it so, unless for want of
-- memory, and book and seat are as they were
pub record IsDeclined
    (old new : BookData) (before after : SeatData) (s : Step) (why : Refusal) : Type 0 where
  pub refused : IsRefusedBehind old.config (entries old.journal) s why
  pub book : new ≡ old
  pub seat : after ≡ before

-- a step was made, and the receipt says where it stands and what it was answered
abbrev pub Receives : BookData → BookData → SeatData → SeatData → Step → Receipt → Type 0
Receives old new before after s r = (r.place ≡ length old.journal)
    × IsMade old new before after s (step_answer_view r.answer)

-- a step was not made, and is given back
abbrev pub GivesBack : BookData → BookData → SeatData → SeatData → code.Step → Refused → Type 0
GivesBack old new before after s it = (it.step ≡ s)
    × IsDeclined old new before after (step_view s) it.why

-- a tenant was opened, which has the next number
pub record IsAdmitted (old new : BookData) (tenant : ℕ) : Type 0 where
  pub number : tenant ≡ old.tenants
  pub journal : Notes old new (entry_of (opens tenant) tenant_opened)
  pub answer : IsAnswered old.config (entries old.journal) (opens old.tenants) tenant_opened
  pub tenants : new.tenants ≡ old.tenants + 1

-- these are the seats of a tenant that was opened, which is counted on its reader's
abbrev pub AreSeatsOf : ℕ → SeatData → SeatData → SeatData → SeatData → SeatData → Type 0
AreSeatsOf t reader worker other_worker writer runner =
    (reader ≡ seat_with t 1) × (worker ≡ seat_with t 0) × (other_worker ≡ seat_with t 0)
    × (writer ≡ seat_with t 0) × (runner ≡ seat_with t 0)

-- no tenant is opened: a book admits no more, or the server to which the journal leads refuses the
-- next one so, unless for want of memory
abbrev pub RefusesTenant : BookData → Refusal → Type 0
RefusesTenant b why = ((why ≡ Refusal.Full) × (b.tenants ≡ TENANTS))
    ⊎ IsRefusedBehind b.config (entries b.journal) (opens b.tenants) why

-- What a call makes of the machine and the journal that it is lent, for every configuration for
-- which the machine keeps the journal.

-- it keeps it on
abbrev pub KeepsOn : Machine → List JournalEntry → Machine → List JournalEntry → Type 0
KeepsOn old before new after = (config : Config) → KeepsFor config old (entries before)
    → KeepsFor config new (entries after)

-- the step stands behind the others with this answer, which is that of the server to which they led
abbrev pub IsWritten : Config → List JournalEntry → List JournalEntry → Step → StepAnswer → Type 0
IsWritten config before after s answer = (entries after ≡ entries before ++ entry_of s answer ∷ [])
    × IsAnswered config (entries before) s answer

-- where the call succeeds the step was accepted, and is written down
abbrev pub Writes : {A E : Type 0} → Step → Machine → List JournalEntry → List JournalEntry
    → Result A E
    → (A → StepAnswer) → Type 0
Writes s old before after result answer = (config : Config) → KeepsFor config old (entries before)
    → IfOk result (λ x. IsWritten config before after s (answer x))

-- there is one entry more, and their number fits 64 bits
abbrev pub AddsOne : {A E : Type 0} → List JournalEntry → List JournalEntry → Result A E → Type 0
AddsOne before after result =
    OnOk result ((length after ≡ length before + 1) × (length after < 2 ^ 64))

-- where it fails the step is refused so
abbrev pub DeclinesEntry : {A E : Type 0} → Step → Machine → List JournalEntry → Result A E
    → (E → Refusal)
    → Type 0
DeclinesEntry s old before result why = (config : Config) → KeepsFor config old (entries before)
    → IfErr result (λ e. IsRefusedBehind config (entries before) s (why e))
