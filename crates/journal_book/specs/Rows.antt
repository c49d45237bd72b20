-- What a report says, and what it is held to.
use Rattle.std.specs.Prelude.{◌==◌, ℕ, List, sum_by, unwrap_or, if◌then◌else◌}
use Rattle.std.specs.BTreeMap.{get}
use Rattle.std.specs.Ordering.{nat_cmp}
use Rattle.server_rules.specs.Machine.Turns.{whose_step}
use Rattle.journal_book.specs.Journal.{EntryData}
use Rattle.journal_book.specs.View.{SeatData}
use Rattle.journal_book.specs.Tenants.{whose_entry}
use Rattle.journal_book.specs.declared.entry.JournalEntry.{JournalEntry}
use Rattle.journal_book.specs.declared.report.Report.{Report}
use Rattle.journal_book.specs.declared.report.Row.{Row}

abbrev pub made_row : ℕ → ℕ → Row
made_row journalled made = record { journalled = journalled; made = made }

-- what the report says of a tenant; of one that it does not name, that nothing was counted
abbrev pub row_of : ℕ → Report → Row
row_of t report = unwrap_or (get nat_cmp report.rows t) (made_row 0 0)

-- how many entries of a journal are a tenant's
abbrev pub entries_of : ℕ → List EntryData → ℕ
entries_of t = sum_by (λ e. if whose_step e.step == t then 1 else 0)

-- the same, of entries of the code
abbrev pub entries_by : ℕ → List JournalEntry → ℕ
entries_by t = sum_by (λ e. if whose_entry e == t then 1 else 0)

-- how many steps were counted on the seats of a tenant, and on all seats
abbrev pub counted_of : ℕ → List SeatData → ℕ
counted_of t = sum_by (λ s. if s.tenant == t then s.made else 0)

abbrev pub all_counted : List SeatData → ℕ
all_counted = sum_by (λ s. s.made)
