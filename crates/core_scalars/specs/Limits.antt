-- How long a text may be.
use Rattle.std.specs.Prelude.{ℕ, List, length, nat_le, nat_lt, Option, Some, None, Result, Ok, Err}
use Rattle.std.specs.Prelude.{if◌then◌else◌}
use Rattle.value_data.specs.Datum.{Datum, string}
use Rattle.value_data.specs.Measures.{weight}
use Rattle.repl_values.specs.declared.limits.TheConstants.{MOST_WEIGHT, MOST_TEXT}
use Rattle.repl_values.specs.Failure.{Failure, too_large}

-- the most that a value may weigh
abbrev pub most_weight : ℕ
most_weight = MOST_WEIGHT

-- the most that is printed, in bytes
abbrev pub most_text : ℕ
most_text = MOST_TEXT

-- a value, where it is not too heavy
unfoldable pub within_weight : Result Datum Failure → Result Datum Failure
within_weight (Ok d) = if nat_le (weight d) most_weight then Ok d else Err too_large
within_weight (Err f) = Err f

-- a text, where it is not too long
unfoldable pub if_short : List ℕ → Option (List ℕ)
if_short s = if nat_lt most_text (length s) then None else Some s

-- a text that was short enough, as a value
abbrev pub light : Option (List ℕ) → Result Datum Failure
light None = Err too_large
light (Some s) = within_weight (Ok (string s))
