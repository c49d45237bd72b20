-- What entries and seats of the code are seen as.
use Rattle.std.specs.Prelude.{ℕ, List, [], ◌∷◌, ◌++◌, unwrap_or}
use Rattle.value_data.specs.Datum.{nil}
use Rattle.std.specs.Arc.{arc_str_bytes}
use Rattle.repl_asks.specs.Exchange.{AskData, resolve, resolution}
use Rattle.repl_asks.specs.Job.{form, EndData, EndingData}
use Rattle.repl_asks.specs.Inside.View.{ask_view, resolution_view}
use Rattle.repl_asks.specs.Inside.Jobs.{finished_view}
use Rattle.repl_walker.specs.Ends.{ending_view}
use Rattle.server_rules.specs.Machine.World.{does}
use Rattle.server_rules.specs.Plan.{hears, starts, asks_for, ends, drains, messages_heard}
use Rattle.server_rules.specs.Plan.{ask_answered, form_finished, request_interrupted, reply_given}
use Rattle.server_rules.specs.Request.{Run}
use Rattle.tenant_asks.specs.Answers.{ask_answer_view}
use Rattle.tenant_world.specs.Answers.{start_answer_view}
use Rattle.repl_core.specs.Steps.{step_view, step_answer_view}
use Rattle.repl_core.specs.declared.machine.Config.{Config}
use Rattle.journal_book.specs.Forms.{form_told}
use Rattle.journal_book.specs.Journal.{EntryData}
use Rattle.journal_book.specs.declared.entry.JournalEntry.{JournalEntry}
use Rattle.journal_book.specs.declared.entry.ResolvedSymbol.{ResolvedSymbol}

-- of an actor of which no form was told: no such form ends
abbrev pub no_form : Run
no_form = record { job = record { work = form nil; namespace = []; retries = 0 }; trace = [] }

-- this form, ended so
abbrev pub run_ended : Run → EndData → EndingData
run_ended run end = record { job = run.job; trace = run.trace; end = end }

-- what a symbol names is asked
abbrev pub symbol_ask : ResolvedSymbol → AskData
symbol_ask it = resolve (arc_str_bytes it.namespace) (arc_str_bytes it.symbol)

-- What an entry says behind others. Where a form ended, these tell its job, and what it asked and
-- was answered.
abbrev pub entry_in : List EntryData → JournalEntry → EntryData
entry_in said (JournalEntry.Started t a answer) =
    record { step = does t (starts a); answer = start_answer_view answer.value }
entry_in said (JournalEntry.Resolved t a it) = record {
  step = does t (asks_for a (symbol_ask it.value));
  answer = ask_answered (resolution (resolution_view it.value.resolution));
}
entry_in said (JournalEntry.Asked t a asked) = record {
  step = does t (asks_for a (ask_view asked.value.ask));
  answer = ask_answer_view asked.value.answer;
}
entry_in said (JournalEntry.Ended t a finished) = record {
  step = does t (ends a
      (run_ended (unwrap_or (form_told t a said) no_form) (finished_view finished.value)));
  answer = form_finished;
}
entry_in said (JournalEntry.Interrupted t a ending) =
    record { step = does t (ends a (ending_view ending.value)); answer = request_interrupted }
entry_in said (JournalEntry.Drained t reply) =
    record { step = does t drains; answer = reply_given reply.items }
entry_in said (JournalEntry.Heard t it) =
    record { step = does t (hears it.value.piece); answer = messages_heard it.value.messages }
entry_in said (JournalEntry.Other it) =
    record { step = step_view it.value.step; answer = step_answer_view it.value.answer }

-- what entries say, one behind another
abbrev pub entries_behind : List EntryData → List JournalEntry → List EntryData
entries_behind said [] = said
entries_behind said (e ∷ es) = entries_behind (said ++ entry_in said e ∷ []) es

abbrev pub entries : List JournalEntry → List EntryData
entries = entries_behind []

-- a book: its configuration, its journal, and how many tenants were admitted
pub record BookData : Type 0 where
  pub config : Config
  pub journal : List JournalEntry
  pub tenants : ℕ

-- a seat: its tenant, and how many steps were counted on it
pub record SeatData : Type 0 where
  pub tenant : ℕ
  pub made : ℕ

abbrev pub seat_with : ℕ → ℕ → SeatData
seat_with t n = record { tenant = t; made = n }
