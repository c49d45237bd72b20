-- Reads and sets of refs, and what else is asked of the store (the Clojure reference, Refs and
-- Transactions, Atoms, and Agents).
use Rattle.std.specs.Prelude.{List, Bool, true, false, Option, Some, None, Result, Ok, Err}
use Rattle.std.specs.Prelude.{if◌then◌else◌}
use Rattle.value_data.specs.Datum.{Datum}
use Rattle.repl_values.specs.Failure.{Failure, broken_rule}
use Rattle.repl_values.specs.declared.rule.Rule.{Rule}
use Rattle.core_functions.specs.declared.store.StoreFunction.{StoreFunction}
use Rattle.repl_asks.specs.Transactions.{RefNameData, may_hold}
use Rattle.repl_asks.specs.Exchange.{AskData, read, ReadingData, found, retry, PermissionData}
use Rattle.repl_asks.specs.Exchange.{granted, denied, value_in, reading_in, permission_in}
use Rattle.repl_asks.specs.Accesses.{got, put, ensured, attempt_value, is_commuted}
use Rattle.evaluation_rules.specs.Calling.{CallData, refused, reads, puts, ensures, asks_value}
use Rattle.evaluation_rules.specs.Calling.{asks_permission}
use Rattle.evaluation_rules.specs.Calling.{call_data_of, shared_call_data_of, action_call_data_of}
use Rattle.evaluation_rules.specs.declared.occasion.Occasion.{Occasion}
use Rattle.evaluation_rules.specs.Doing.{left, failed, retried, asking, looking, noting, Part}
use Rattle.evaluation_rules.specs.Doing.{◌|>◌, fails}

-- A value that was read is noted. One that is kept no longer ends the attempt, and another is made.
abbrev pub read_value : RefNameData → ReadingData → Part Datum
read_value name (found d) next kept = noting (got name d) (next d kept)
read_value name retry next kept = left retried kept

abbrev pub known_or_read : RefNameData → Option Datum → Part Datum
known_or_read name (Some d) next kept = next d kept
known_or_read name None next kept =
    asking (read name) (λ answer. read_value name (reading_in answer) next kept)

-- the value that the attempt knows, else that which is read
abbrev pub ref_value : RefNameData → Part Datum
ref_value name next kept = looking (λ a. known_or_read name (attempt_value name a) next kept)

-- A ref is set, and the value given. One that was commuted is set no more.
abbrev pub put_by : RefNameData → Datum → Bool → Part Datum
put_by name d true next kept = left (failed (broken_rule Rule.NoSetAfterCommute)) kept
put_by name d false next kept = noting (put name d) (next d kept)

unfoldable pub put_value : RefNameData → Datum → Part Datum
put_value name d next kept = looking (λ a. put_by name d (is_commuted name a) next kept)

-- the same, where the ref may hold it
unfoldable pub held_value : RefNameData → Datum → Part Datum
held_value name d = if may_hold name.owner d then put_value name d
    else fails (broken_rule Rule.SharedRefsArePlain)

-- the value of a ref that nobody else is to change
abbrev pub ensure_noted : RefNameData → Datum → Part Datum
ensure_noted name d next kept = noting (ensured name d) (next d kept)

unfoldable pub ensured_value : RefNameData → Part Datum
ensured_value name = ref_value name |> ensure_noted name

-- the same, where it was read
abbrev pub ensured_read : RefNameData → ReadingData → Part Datum
ensured_read name r = read_value name r |> ensure_noted name

abbrev pub asked_value : AskData → Part Datum
asked_value ask next kept = asking ask (λ answer. next (value_in answer) kept)

-- what is denied fails
abbrev pub permitted_value : Datum → PermissionData → Part Datum
permitted_value d granted next kept = next d kept
permitted_value d (denied f) next kept = left (failed f) kept

abbrev pub granted_value : AskData → Datum → Part Datum
granted_value ask d next kept =
    asking ask (λ answer. permitted_value d (permission_in answer) next kept)

abbrev pub called_value : CallData → Part Datum
called_value (refused f) = fails f
called_value (reads name) = ref_value name
called_value (puts name d) = put_value name d
called_value (ensures name) = ensured_value name
called_value (asks_value ask) = asked_value ask
called_value (asks_permission ask d) = granted_value ask d

abbrev pub call_data_at : Occasion → StoreFunction → Bool → List Datum → CallData
call_data_at Occasion.Form f running args = call_data_of f running args
call_data_at Occasion.SharedText f running args = shared_call_data_of f args
call_data_at Occasion.Action f running args = action_call_data_of f running args

-- a call of a function that asks the store
unfoldable pub store_call : StoreFunction → List Datum → Part Datum
store_call f args next kept =
    called_value (call_data_at kept.occasion f kept.running args) next kept

-- `alter` and `commute` read a ref and go on with its value
abbrev pub altered_value : Result RefNameData Failure → (RefNameData → Datum → Part Datum)
    → Part Datum
altered_value (Ok name) behind = ref_value name |> behind name
altered_value (Err f) behind = fails f
