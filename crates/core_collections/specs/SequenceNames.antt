-- The functions, each with its name and the numbers of arguments that it takes.
use Rattle.std.specs.Prelude.{ℕ, List, [], ◌∷◌, Bool, Option, codes}
use Rattle.repl_values.specs.FunctionRows.{FunctionRowData, takes, first_named}
use Rattle.repl_values.specs.declared.function_row.Arity.{Arity}
use Rattle.core_collections.specs.declared.sequence_function.SequenceFunction.{SequenceFunction}

abbrev pub sequence_row : SequenceFunction → FunctionRowData
sequence_row SequenceFunction.List = record { name = codes "list"; arity = Arity.AnyNumber }
sequence_row SequenceFunction.Vector = record { name = codes "vector"; arity = Arity.AnyNumber }
sequence_row SequenceFunction.First = record { name = codes "first"; arity = Arity.Exactly 1 }
sequence_row SequenceFunction.Last = record { name = codes "last"; arity = Arity.Exactly 1 }
sequence_row SequenceFunction.Rest = record { name = codes "rest"; arity = Arity.Exactly 1 }
sequence_row SequenceFunction.Next = record { name = codes "next"; arity = Arity.Exactly 1 }
sequence_row SequenceFunction.Reverse = record { name = codes "reverse"; arity = Arity.Exactly 1 }
sequence_row SequenceFunction.Cons = record { name = codes "cons"; arity = Arity.Exactly 2 }
sequence_row SequenceFunction.Conj = record { name = codes "conj"; arity = Arity.AtLeast 1 }
sequence_row SequenceFunction.Count = record { name = codes "count"; arity = Arity.Exactly 1 }
sequence_row SequenceFunction.IsEmpty = record { name = codes "empty?"; arity = Arity.Exactly 1 }
sequence_row SequenceFunction.Nth = record { name = codes "nth"; arity = Arity.FromTo 2 3 }

abbrev pub sequence_functions : List SequenceFunction
sequence_functions =
    SequenceFunction.List ∷ SequenceFunction.Vector ∷ SequenceFunction.First
    ∷ SequenceFunction.Last ∷ SequenceFunction.Rest ∷ SequenceFunction.Next
    ∷ SequenceFunction.Reverse ∷ SequenceFunction.Cons ∷ SequenceFunction.Conj
    ∷ SequenceFunction.Count ∷ SequenceFunction.IsEmpty ∷ SequenceFunction.Nth ∷ []

abbrev pub sequence_function_named : List ℕ → Option SequenceFunction
sequence_function_named name = first_named sequence_row sequence_functions name

abbrev pub name_of_sequence_function : SequenceFunction → List ℕ
name_of_sequence_function f = (sequence_row f).name

abbrev pub fits_sequence_function : SequenceFunction → ℕ → Bool
fits_sequence_function f n = takes (sequence_row f).arity n
