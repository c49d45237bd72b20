-- `swap!` (the Clojure reference, Atoms). `walk` evaluates a form one level further down.
use Rattle.std.specs.Prelude.{ℕ, zero, suc, List, [], ◌∷◌, Result, Ok, Err, if◌then◌else◌}
use Rattle.value_data.specs.Datum.{Datum}
use Rattle.repl_values.specs.Failure as failures
use Rattle.repl_values.specs.Failure.{Failure}
use Rattle.core_functions.specs.StoreNames.{store_name_of}
use Rattle.core_functions.specs.declared.store.StoreFunction.{StoreFunction}
use Rattle.repl_asks.specs.Exchange.{NamedFunctionData, read_atom, try_atom}
use Rattle.special_forms.specs.Truth.{is_truthy}
use Rattle.evaluation_rules.specs.Arguments.{atom_in}
use Rattle.evaluation_rules.specs.Doing.{failed, left, Part, ◌|>◌, pure_part, fails}
use Rattle.evaluation_rules.specs.Places.{Evaluator}
use Rattle.evaluation_rules.specs.Refs.{asked_value}
use Rattle.evaluation_rules.specs.Applying.{function_called}

-- A try is told whether the atom got the next value. If it did not, all is done again.
abbrev pub settled_value : Part Datum → Datum → Datum → Part Datum
settled_value again next done = if is_truthy done then pure_part next else again

-- the atom gets its next value, if it still has the one that was seen
unfoldable pub tried_value : ℕ → Datum → Part Datum → Datum → Part Datum
tried_value n seen again next = asked_value (try_atom n seen next) |> settled_value again next

-- The function is called with the value that was seen and these arguments, and what it gives is
-- tried.
unfoldable pub seen_value : Evaluator → NamedFunctionData → List Datum → ℕ → Part Datum → Datum
    → Part Datum
seen_value walk f args n again seen =
    function_called walk f (seen ∷ args) |> tried_value n seen again

-- Up to so many tries, each of which reads the atom first.
unfoldable pub swapped_value : ℕ → Evaluator → NamedFunctionData → List Datum → ℕ → Part Datum
swapped_value zero walk f args n = fails failures.too_many_calls
swapped_value (suc more) walk f args n = asked_value (read_atom n)
    |> seen_value walk f args n (swapped_value more walk f args n)

-- Each try calls the function. So with one try more than there are calls left, the calls come to an
-- end first, and never the tries.
abbrev pub swap_of : Evaluator → NamedFunctionData → List Datum → Result ℕ Failure → Part Datum
swap_of walk f args (Ok n) next kept = swapped_value (suc kept.calls) walk f args n next kept
swap_of walk f args (Err refused) next kept = left (failed refused) kept

-- the call of `swap!`, which calls its function in turn
unfoldable pub swap_call : Evaluator → NamedFunctionData → List Datum → Part Datum
swap_call walk f [] = fails (failures.wrong_arity (store_name_of StoreFunction.Swap) 1)
swap_call walk f (d ∷ args) = swap_of walk f args (atom_in StoreFunction.Swap d)
