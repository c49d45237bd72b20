-- The two ways to spell a value.
use Rattle.std.specs.Prelude.{ℕ, List}
use Rattle.value_data.specs.Datum.{Datum}
use Rattle.repl_values.specs.Print.{print, display}
use Rattle.core_scalars.specs.declared.printing.Spelling.{Spelling}

abbrev pub text_spelled : Spelling → Datum → List ℕ
text_spelled Spelling.Print = print
text_spelled Spelling.Display = display
