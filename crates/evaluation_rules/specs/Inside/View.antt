-- Calls, seen as data.
use Rattle.std.specs.Prelude.{ℕ, Result, Ok, Err}
use Rattle.value_data.specs.Inside.View.{view}
use Rattle.repl_values.specs.Failure.{Failure}
use Rattle.repl_values.specs.Inside.FaultView.{failure_of}
use Rattle.repl_asks.specs.Transactions.{RefNameData}
use Rattle.repl_asks.specs.Inside.View.{name_view, ask_view}
use Rattle.evaluation_rules.specs.Calling.{CallData, refused, reads, puts, ensures, asks_value}
use Rattle.evaluation_rules.specs.Calling.{asks_permission}
use Rattle.evaluation_rules.specs.Arguments.{BoundsData}
use Rattle.evaluation_rules.specs.declared.bounds.HistoryBounds.{HistoryBounds}
use Rattle.evaluation_rules.specs.declared.outcome.Addressed.{Addressed}
use Rattle.evaluation_rules.specs.declared.outcome.Altered.{Altered}
use Rattle.evaluation_rules.specs.declared.outcome.Call.{Call}
use Rattle.evaluation_rules.specs.declared.outcome.Swapped.{Swapped}

abbrev pub call_view : Call → CallData
call_view (Call.Refused f) = refused (failure_of f)
call_view (Call.Reads name) = reads (name_view name)
call_view (Call.Puts name v) = puts (name_view name) (view v)
call_view (Call.Ensures name) = ensures (name_view name)
call_view (Call.AsksValue ask) = asks_value (ask_view ask)
call_view (Call.AsksPermission ask v) = asks_permission (ask_view ask) (view v)

-- the ref that is altered, or why none is
abbrev pub altered_view : Altered → Result RefNameData Failure
altered_view (Altered.Ref name) = Ok (name_view name)
altered_view (Altered.Refused f) = Err (failure_of f)

-- the number of the atom that is swapped, or why none is
abbrev pub swapped_view : Swapped → Result ℕ Failure
swapped_view (Swapped.Atom n) = Ok n
swapped_view (Swapped.Refused f) = Err (failure_of f)

-- the number of the agent to which something is sent, or why it is not
abbrev pub addressed_view : Addressed → Result ℕ Failure
addressed_view (Addressed.Agent n) = Ok n
addressed_view (Addressed.Refused f) = Err (failure_of f)

abbrev pub bounds_view : HistoryBounds → BoundsData
bounds_view b = record { least = b.least; most = b.most }
