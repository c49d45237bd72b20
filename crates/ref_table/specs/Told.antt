-- That a call of the table does what the rules say of it.
use Rattle.std.specs.Prelude.{◌≡◌, Bool, true, false, Option, Some, None, option_map}
use Rattle.value_data.specs.Datum as datum
use Rattle.value_data.specs.Inside.View.{owner_view}
use Rattle.value_data.specs.declared.value.RefName.{RefName}
use Rattle.repl_values.specs.Inside.FaultView.{failure_of}
use Rattle.repl_asks.specs.Exchange.{AnswerData, value, reading, verdict, committed, conflict}
use Rattle.repl_asks.specs.Exchange.{faulted}
use Rattle.repl_asks.specs.Inside.View.{reading_view}
use Rattle.repl_asks.specs.declared.answer.Reading.{Reading}
use Rattle.ref_history.specs.Versioned.{Ref}
use Rattle.ref_table.specs.Store.{Store}
use Rattle.ref_table.specs.Performed.{Performed}
use Rattle.ref_history.specs.declared.ref_id.RefId.{RefId}
use Rattle.ref_table.specs.Refs.{TableRefs, refs_after}
use Rattle.ref_table.specs.Standing.{TableStands}
use Rattle.ref_table.specs.declared.table.RefTable.{RefTable}
use Rattle.ref_table.specs.declared.outcome.CommitOutcome.{CommitOutcome}

-- what the rules tell is told, and the table stands for the refs as they leave them
pub record Performs {H : Type 0} (stands : H → RefId → Ref → Type 0) (t : RefTable H) (r : TableRefs)
    (answer : Option AnswerData) (p : Performed Store) : Type 0 where
  pub told : answer ≡ p.told
  pub left : TableStands stands t (refs_after p.store r)

-- what is told of a read
abbrev pub reading_told : Option Reading → Option AnswerData
reading_told = option_map (λ it. reading (reading_view it))

-- a ref whose bound was set is told by its name
abbrev pub setting_told : RefName → Bool → Option AnswerData
setting_told name true = Some (value (datum.ref (owner_view name.owner) name.number))
setting_told name false = None

abbrev pub outcome_told : CommitOutcome → Option AnswerData
outcome_told CommitOutcome.Committed = Some (verdict committed)
outcome_told CommitOutcome.Conflict = Some (verdict conflict)
outcome_told (CommitOutcome.Faulted f) = Some (verdict (faulted (failure_of f)))
outcome_told CommitOutcome.Refused = None

abbrev pub is_committed : CommitOutcome → Bool
is_committed CommitOutcome.Committed = true
is_committed CommitOutcome.Conflict = false
is_committed (CommitOutcome.Faulted f) = false
is_committed CommitOutcome.Refused = false
