-- Calls (the Clojure reference, Evaluation, and `defn` of clojure.core). `walk` evaluates a form
-- one level further down.
use Rattle.std.specs.Prelude.{ℕ, suc, List, [], ◌∷◌, Bool, true, false, if◌then◌else◌, ◌==◌, length}
use Rattle.value_data.specs.Datum.{Datum}
use Rattle.repl_values.specs.Failure as failures
use Rattle.repl_values.specs.declared.rule.Rule.{Rule}
use Rattle.core_functions.specs.StoreNames.{store_name_of, store_fits}
use Rattle.core_functions.specs.declared.store.StoreFunction.{StoreFunction}
use Rattle.repl_asks.specs.Transactions.{RefNameData, CommuteData, may_hold}
use Rattle.repl_asks.specs.Exchange.{NamedFunctionData, core_function, store_function}
use Rattle.repl_asks.specs.Exchange.{program_function}
use Rattle.repl_asks.specs.Accesses.{commuted}
use Rattle.evaluation_rules.specs.Calling.{altered_in, altering}
use Rattle.evaluation_rules.specs.declared.altering.Alteration.{Alteration}
use Rattle.evaluation_rules.specs.declared.sending.Dispatch.{Dispatch}
use Rattle.evaluation_rules.specs.declared.updating.Update.{Update}
use Rattle.evaluation_rules.specs.Doing.{failed, left, noting, Part, ◌|>◌, fails}
use Rattle.evaluation_rules.specs.Places.{PlaceData, Evaluator}
use Rattle.evaluation_rules.specs.Rows.{row}
use Rattle.evaluation_rules.specs.Naming.{function_value}
use Rattle.evaluation_rules.specs.Refs.{held_value, altered_value}
use Rattle.evaluation_rules.specs.Applying.{CalleeData, core_call, keyword_call, full_name}
use Rattle.evaluation_rules.specs.Applying.{function_applied, with_calls, function_called}
use Rattle.evaluation_rules.specs.Applying.{named_callee, keyword_callee, update_callee}
use Rattle.evaluation_rules.specs.Atoms.{swap_call}
use Rattle.evaluation_rules.specs.Agents.{send_call}
use Rattle.evaluation_rules.specs.SharedText.{outside_shared_text}

-- `alter` calls its function with the value of a ref and these arguments, and sets what that gives.
abbrev pub altering_value : Evaluator → NamedFunctionData → List Datum → RefNameData → Datum
    → Part Datum
altering_value walk f args name d = function_called walk f (d ∷ args) |> held_value name

-- `commute` applies a function of the language so, and notes it with what it gave. Another
-- function's call counts, and its number of arguments is looked at.
abbrev pub commute_noted : RefNameData → CommuteData → Datum → Part Datum
commute_noted name c d next kept =
    if may_hold name.owner d then noting (commuted name c d) (next d kept)
    else left (failed (failures.broken_rule Rule.SharedRefsArePlain)) kept

abbrev pub not_of_core : Bool → List ℕ → ℕ → Part Datum
not_of_core true name n = fails (failures.broken_rule Rule.CommutesAreOfCore)
not_of_core false name n = fails (failures.wrong_arity name n)

abbrev pub commute_applied : NamedFunctionData → List Datum → RefNameData → Datum → Part Datum
commute_applied (core_function f) args name d =
    core_call f (d ∷ args) |> commute_noted name (record { function = f; arguments = args })
commute_applied (store_function f) args name d =
    not_of_core (store_fits f (suc (length args))) (store_name_of f) (suc (length args))
commute_applied (program_function f) args name d =
    not_of_core (length f.params == suc (length args)) (full_name f) (suc (length args))

unfoldable pub commuting_value : NamedFunctionData → List Datum → RefNameData → Datum → Part Datum
commuting_value f args name d next kept =
    with_calls kept.calls (commute_applied f args name d) next kept

abbrev pub alteration_value
    : Evaluator → Alteration → NamedFunctionData → List Datum → RefNameData → Datum → Part Datum
alteration_value walk Alteration.Alter = altering_value walk
alteration_value walk Alteration.Commute = commuting_value

-- the call of `alter` or `commute`, which calls its function in turn
unfoldable pub alter_call : Evaluator → Alteration → NamedFunctionData → List Datum → Part Datum
alter_call walk by f [] next kept =
    left (failed (failures.wrong_arity (store_name_of (altering by)) 1)) kept
alter_call walk by f (d ∷ args) next kept =
    altered_value (altered_in by kept.running d) (alteration_value walk by f args) next kept

abbrev pub updated_value : Evaluator → Update → NamedFunctionData → List Datum → Part Datum
updated_value walk (Update.Ref by) f args = alter_call walk by f args
updated_value walk Update.Atom f args = swap_call walk f args
updated_value walk (Update.Agent by) f args = send_call by f args

abbrev pub update_call : Evaluator → Update → NamedFunctionData → List Datum → Part Datum
update_call walk by f args = outside_shared_text (updated_value walk by f args)

abbrev pub applied_value : Evaluator → CalleeData → List Datum → Part Datum
applied_value walk (named_callee f) args = function_applied walk f args
applied_value walk (keyword_callee s) args = keyword_call s args
applied_value walk (update_callee by f) args = update_call walk by f args

unfoldable pub counted_call : Evaluator → CalleeData → List Datum → Part Datum
counted_call walk callee args next kept =
    with_calls kept.calls (applied_value walk callee args) next kept

-- the arguments, and then the call
abbrev pub call_value : Evaluator → PlaceData → List Datum → CalleeData → Part Datum
call_value walk p forms callee = row (walk p) forms |> counted_call walk callee

-- `alter`, `commute`, `swap!`, `send` and `send-off` take a function by its name, between the first
-- argument and those behind it.
abbrev pub updating_call : Evaluator → PlaceData → Update → Datum → Datum → List Datum → Part Datum
updating_call walk p by d e ds =
    walk p d |> λ v. (function_value p e
    |> λ f. (row (walk p) ds |> λ vs. counted_call walk (update_callee by f) (v ∷ vs)))

-- A call of a function that is named at the head of a list.
abbrev pub named_call : Evaluator → PlaceData → List Datum → NamedFunctionData → Part Datum
named_call walk p (d ∷ e ∷ ds) (store_function StoreFunction.Alter) =
    updating_call walk p (Update.Ref Alteration.Alter) d e ds
named_call walk p (d ∷ e ∷ ds) (store_function StoreFunction.Commute) =
    updating_call walk p (Update.Ref Alteration.Commute) d e ds
named_call walk p (d ∷ e ∷ ds) (store_function StoreFunction.Swap) =
    updating_call walk p Update.Atom d e ds
named_call walk p (d ∷ e ∷ ds) (store_function StoreFunction.Send) =
    updating_call walk p (Update.Agent Dispatch.Send) d e ds
named_call walk p (d ∷ e ∷ ds) (store_function StoreFunction.SendOff) =
    updating_call walk p (Update.Agent Dispatch.SendOff) d e ds
named_call walk p forms f = call_value walk p forms (named_callee f)
