-- Integers among the arguments.
use Rattle.std.proofs.Common.{ℤ, List, ◌++◌, Result, Ok, Err}
use Rattle.value_data.proofs.Views.{value_views}
use Rattle.repl_values.specs.Failure.{Failure}

-- what was found before, and what is still found
abbrev pub with_front : List ℤ → Result (List ℤ) Failure → Result (List ℤ) Failure
with_front front (Ok ns) = Ok (front ++ ns)
with_front front (Err f) = Err f

pub ruleset seen = value_views
