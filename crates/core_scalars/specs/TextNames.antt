-- The functions, each with its name and the numbers of arguments that it takes.
use Rattle.std.specs.Prelude.{ℕ, List, [], ◌∷◌, Bool, Option, codes}
use Rattle.repl_values.specs.FunctionRows.{FunctionRowData, takes, first_named}
use Rattle.repl_values.specs.declared.function_row.Arity.{Arity}
use Rattle.core_scalars.specs.declared.text_function.TextFunction.{TextFunction}
use Rattle.core_scalars.specs.declared.text_function.PrintFunction.{PrintFunction}

abbrev pub text_row : TextFunction → FunctionRowData
text_row TextFunction.Str = record { name = codes "str"; arity = Arity.AnyNumber }
text_row TextFunction.PrStr = record { name = codes "pr-str"; arity = Arity.AnyNumber }
text_row TextFunction.Name = record { name = codes "name"; arity = Arity.Exactly 1 }

abbrev pub text_functions : List TextFunction
text_functions = TextFunction.Str ∷ TextFunction.PrStr ∷ TextFunction.Name ∷ []

abbrev pub text_function_named : List ℕ → Option TextFunction
text_function_named name = first_named text_row text_functions name

abbrev pub name_of_text_function : TextFunction → List ℕ
name_of_text_function f = (text_row f).name

abbrev pub fits_text_function : TextFunction → ℕ → Bool
fits_text_function f n = takes (text_row f).arity n

abbrev pub name_of_print_function : PrintFunction → List ℕ
name_of_print_function PrintFunction.Print = codes "print"
name_of_print_function PrintFunction.Println = codes "println"
name_of_print_function PrintFunction.Pr = codes "pr"
name_of_print_function PrintFunction.Prn = codes "prn"

-- what prints takes any number
abbrev pub print_row : PrintFunction → FunctionRowData
print_row f = record { name = name_of_print_function f; arity = Arity.AnyNumber }

abbrev pub print_functions : List PrintFunction
print_functions =
    PrintFunction.Print ∷ PrintFunction.Println ∷ PrintFunction.Pr ∷ PrintFunction.Prn ∷ []

abbrev pub print_function_named : List ℕ → Option PrintFunction
print_function_named name = first_named print_row print_functions name
