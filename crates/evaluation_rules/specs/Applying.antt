-- What functions give for their arguments (the Clojure reference, Evaluation, and `defn` of
-- clojure.core). `walk` evaluates a form one level further down.
use Rattle.std.specs.Prelude.{ℕ, zero, suc, List, [], ◌∷◌, ◌++◌, Bool, true, false, Some}
use Rattle.std.specs.Prelude.{if◌then◌else◌, ◌==◌, ◌||◌, length, codes}
use Rattle.value_data.specs.Datum.{Datum, nil, keyword}
use Rattle.repl_values.specs.Failure as failures
use Rattle.core_collections.specs.declared.map_function.MapFunction.{MapFunction}
use Rattle.core_functions.specs.Names.{name_of, fits}
use Rattle.core_functions.specs.declared.function.CoreFunction.{CoreFunction}
use Rattle.core_functions.specs.ApplyOutcome as outcomes
use Rattle.core_functions.specs.ApplyOutcome.{ApplyOutcome}
use Rattle.core_functions.specs.Meaning.{meaning}
use Rattle.repl_asks.specs.Exchange.{NamedFunctionData, core_function, store_function}
use Rattle.repl_asks.specs.Exchange.{program_function}
use Rattle.special_forms.specs.Functions.{FunctionData}
use Rattle.special_forms.specs.Locals.{LocalData}
use Rattle.evaluation_rules.specs.declared.updating.Update.{Update}
use Rattle.evaluation_rules.specs.Doing.{failed, left, printing, Part, fails}
use Rattle.evaluation_rules.specs.Places.{PlaceData, Evaluator}
use Rattle.evaluation_rules.specs.Rows.{value_of_last}
use Rattle.evaluation_rules.specs.Refs.{store_call}
use Rattle.evaluation_rules.specs.SharedText.{outside_shared_text}

-- what is called: a function, or a keyword, which looks itself up
pub data CalleeData : Type 0 where
  named_callee : NamedFunctionData → CalleeData
  keyword_callee : List ℕ → CalleeData
  -- `alter`, `commute`, `swap!`, `send` or `send-off`, with the function that it was given
  update_callee : Update → NamedFunctionData → CalleeData

unfoldable pub printed_value : List ℕ → Datum → Part Datum
printed_value text d next kept = printing text kept (next d kept)

abbrev pub outcome : ApplyOutcome → Part Datum
outcome (outcomes.gives d text) = printed_value text d
outcome (outcomes.fails f) = fails f

abbrev pub prints : CoreFunction → Bool
prints (CoreFunction.Print f) = true
prints f = false

-- what is printed, others see
unfoldable pub core_applied : CoreFunction → List Datum → Part Datum
core_applied f args = if prints f then outside_shared_text (outcome (meaning f args))
    else outcome (meaning f args)

unfoldable pub core_call : CoreFunction → List Datum → Part Datum
core_call f args = if fits f (length args) then core_applied f args
    else fails (failures.wrong_arity (name_of f) (length args))

abbrev pub get_arguments : List ℕ → List Datum → List Datum
get_arguments s [] = []
get_arguments s (m ∷ ds) = m ∷ keyword s ∷ ds

-- `(:name map)` and `(:name map default)` look the keyword up
unfoldable pub keyword_call : List ℕ → List Datum → Part Datum
keyword_call s args =
    if length args == 1 || length args == 2
    then core_call (CoreFunction.Map MapFunction.Get) (get_arguments s args)
    else fails (failures.wrong_arity (codes ":" ++ s) (length args))

-- each parameter with its argument
abbrev pub bound_to : List LocalData → List (List ℕ) → List Datum → List LocalData
bound_to locals [] vs = locals
bound_to locals (s ∷ names) [] = locals
bound_to locals (s ∷ names) (v ∷ vs) = bound_to (record { name = s; bound = v } ∷ locals) names vs

-- the place of a function's body
abbrev pub body_place : FunctionData → List Datum → PlaceData
body_place f args = record { locals = bound_to [] f.params args; home = Some f.space }

abbrev pub body_value : Evaluator → FunctionData → List Datum → Part Datum
body_value walk f args = value_of_last (walk (body_place f args)) nil f.body

abbrev pub full_name : FunctionData → List ℕ
full_name f = f.space ++ codes "/" ++ f.name

unfoldable pub program_call : Evaluator → FunctionData → List Datum → Part Datum
program_call walk f args =
    if length f.params == length args then body_value walk f args
    else fails (failures.wrong_arity (full_name f) (length args))

abbrev pub function_applied : Evaluator → NamedFunctionData → List Datum → Part Datum
function_applied walk (core_function f) args = core_call f args
function_applied walk (store_function f) args = store_call f args
function_applied walk (program_function f) args = program_call walk f args

-- one call is taken from the budget
abbrev pub with_calls : ℕ → Part Datum → Part Datum
with_calls zero part next kept = left (failed failures.too_many_calls) kept
with_calls (suc n) part next kept = part next (record kept { calls = n })

unfoldable pub function_called : Evaluator → NamedFunctionData → List Datum → Part Datum
function_called walk f args next kept =
    with_calls kept.calls (function_applied walk f args) next kept
