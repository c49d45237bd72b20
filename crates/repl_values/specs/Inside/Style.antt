-- The two ways to spell a string inside a value.
use Rattle.std.specs.Prelude.{ℕ, List}
use Rattle.repl_values.specs.declared.print.Strings.{Strings}
use Rattle.repl_values.specs.Print.{quoted}

abbrev pub spelling_of : Strings → List ℕ → List ℕ
spelling_of Strings.Quoted = quoted
spelling_of Strings.Bare = λ s. s
