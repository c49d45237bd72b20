-- What the functions that print add to the printed text.
use Rattle.std.specs.Prelude.{ℕ, List, [], ◌∷◌, ◌++◌, codes, map}
use Rattle.value_data.specs.Datum.{Datum}
use Rattle.repl_values.specs.Print.{print, display, joined_by}
use Rattle.core_scalars.specs.declared.text_function.PrintFunction.{PrintFunction}

-- the spelling of each value, joined by a space
abbrev pub spaced_text : (Datum → List ℕ) → List Datum → List ℕ
spaced_text spelling ds = joined_by (codes " ") (map spelling ds)

abbrev pub newline : List ℕ
newline = 10 ∷ []

abbrev pub text_printed : PrintFunction → List Datum → List ℕ
text_printed PrintFunction.Print ds = spaced_text display ds
text_printed PrintFunction.Println ds = spaced_text display ds ++ newline
text_printed PrintFunction.Pr ds = spaced_text print ds
text_printed PrintFunction.Prn ds = spaced_text print ds ++ newline
