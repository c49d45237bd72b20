-- The functions, each with its name and the numbers of arguments that it takes.
use Rattle.std.specs.Prelude.{ℕ, List, [], ◌∷◌, Bool, Option, codes}
use Rattle.repl_values.specs.FunctionRows.{FunctionRowData, takes, first_named}
use Rattle.repl_values.specs.declared.function_row.Arity.{Arity}
use Rattle.core_collections.specs.declared.map_function.MapFunction.{MapFunction}

abbrev pub map_row : MapFunction → FunctionRowData
map_row MapFunction.HashMap = record { name = codes "hash-map"; arity = Arity.AnyNumber }
map_row MapFunction.Get = record { name = codes "get"; arity = Arity.FromTo 2 3 }
map_row MapFunction.Contains = record { name = codes "contains?"; arity = Arity.Exactly 2 }
map_row MapFunction.Assoc = record { name = codes "assoc"; arity = Arity.OddFrom 3 }
map_row MapFunction.Dissoc = record { name = codes "dissoc"; arity = Arity.AtLeast 1 }
map_row MapFunction.Keys = record { name = codes "keys"; arity = Arity.Exactly 1 }
map_row MapFunction.Vals = record { name = codes "vals"; arity = Arity.Exactly 1 }

abbrev pub map_functions : List MapFunction
map_functions =
    MapFunction.HashMap ∷ MapFunction.Get ∷ MapFunction.Contains ∷ MapFunction.Assoc
    ∷ MapFunction.Dissoc ∷ MapFunction.Keys ∷ MapFunction.Vals ∷ []

abbrev pub map_function_named : List ℕ → Option MapFunction
map_function_named name = first_named map_row map_functions name

abbrev pub name_of_map_function : MapFunction → List ℕ
name_of_map_function f = (map_row f).name

abbrev pub fits_map_function : MapFunction → ℕ → Bool
fits_map_function f n = takes (map_row f).arity n
