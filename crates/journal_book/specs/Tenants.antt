-- Whose step an entry of the code is.
use Rattle.std.specs.Prelude.{ℕ}
use Rattle.server_rules.specs.Machine.Turns.{whose_step}
use Rattle.repl_core.specs.Steps.{step_view}
use Rattle.journal_book.specs.declared.entry.JournalEntry.{JournalEntry}

abbrev pub whose_entry : JournalEntry → ℕ
whose_entry (JournalEntry.Started t a answer) = t
whose_entry (JournalEntry.Resolved t a it) = t
whose_entry (JournalEntry.Asked t a asked) = t
whose_entry (JournalEntry.Ended t a finished) = t
whose_entry (JournalEntry.Interrupted t a ending) = t
whose_entry (JournalEntry.Drained t reply) = t
whose_entry (JournalEntry.Heard t it) = t
whose_entry (JournalEntry.Other it) = whose_step (step_view it.value.step)
