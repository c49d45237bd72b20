-- The functions that need no store, group by group: each has its row in the table of its group.
use Rattle.std.specs.Prelude.{ℕ, List, Bool, Option, Some, None}
use Rattle.repl_values.specs.FunctionRows.{FunctionRowData, takes}
use Rattle.core_scalars.specs.IntegerNames.{integer_row, integer_function_named}
use Rattle.core_scalars.specs.PredicateNames.{predicate_row, predicate_function_named}
use Rattle.core_scalars.specs.TextNames.{text_row, text_function_named, print_row}
use Rattle.core_scalars.specs.TextNames.{print_function_named}
use Rattle.core_collections.specs.SequenceNames.{sequence_row, sequence_function_named}
use Rattle.core_collections.specs.MapNames.{map_row, map_function_named}
use Rattle.core_functions.specs.declared.function.CoreFunction.{CoreFunction}

-- the first of two groups that has the name
abbrev pub or_else : Option CoreFunction → Option CoreFunction → Option CoreFunction
or_else (Some f) other = Some f
or_else None other = other

abbrev pub among : {F : Type 0} → (F → CoreFunction) → Option F → Option CoreFunction
among group (Some f) = Some (group f)
among group None = None

abbrev pub function_named : List ℕ → Option CoreFunction
function_named name =
    or_else (among CoreFunction.Integer (integer_function_named name)) (
    or_else (among CoreFunction.Predicate (predicate_function_named name)) (
    or_else (among CoreFunction.Text (text_function_named name)) (
    or_else (among CoreFunction.Sequence (sequence_function_named name)) (
    or_else (among CoreFunction.Map (map_function_named name)) (
    among CoreFunction.Print (print_function_named name))))))

abbrev pub core_row : CoreFunction → FunctionRowData
core_row (CoreFunction.Integer f) = integer_row f
core_row (CoreFunction.Predicate f) = predicate_row f
core_row (CoreFunction.Text f) = text_row f
core_row (CoreFunction.Sequence f) = sequence_row f
core_row (CoreFunction.Map f) = map_row f
core_row (CoreFunction.Print f) = print_row f

abbrev pub name_of : CoreFunction → List ℕ
name_of f = (core_row f).name

abbrev pub fits : CoreFunction → ℕ → Bool
fits f n = takes (core_row f).arity n
