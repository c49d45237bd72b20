-- What applying a function to values comes to.
use Rattle.std.specs.Prelude.{ℕ, List, [], length, Option, Some, None, Result, Ok, Err, nat_le}
use Rattle.std.specs.Prelude.{nat_lt, ◌&&◌, if◌then◌else◌}
use Rattle.value_data.specs.Datum.{Datum, nil}
use Rattle.value_data.specs.Measures.{weight, nesting}
use Rattle.repl_values.specs.Failure.{Failure, too_large, output_too_long}
use Rattle.repl_values.specs.declared.limits.TheConstants.{MOST_NESTING}
use Rattle.core_scalars.specs.Limits.{most_weight, most_text}

pub data ApplyOutcome : Type 0 where
  -- a value, and the text that was printed
  gives : Datum → List ℕ → ApplyOutcome
  fails : Failure → ApplyOutcome

-- the deepest that a value may nest
abbrev pub most_nesting : ℕ
most_nesting = MOST_NESTING

-- a value that a function made, with nothing printed, where it keeps within the limits
unfoldable pub limited_outcome : Datum → ApplyOutcome
limited_outcome d = if nat_le (weight d) most_weight && nat_le (nesting d) most_nesting
    then gives d [] else fails too_large

unfoldable pub apply_outcome : Result Datum Failure → ApplyOutcome
apply_outcome (Ok d) = limited_outcome d
apply_outcome (Err f) = fails f

-- what prints more than is printed at all fails
abbrev pub bounded_outcome : ApplyOutcome → ApplyOutcome
bounded_outcome (gives d text) = if nat_lt most_text (length text) then fails output_too_long
    else gives d text
bounded_outcome (fails f) = fails f

-- nil, where the text that was printed is short enough
abbrev pub printed_nil : Option (List ℕ) → ApplyOutcome
printed_nil (Some text) = gives nil text
printed_nil None = fails output_too_long
