-- What each function that gives a text is.
use Rattle.std.specs.Prelude.{ℕ, List, [], ◌+◌, drop, if◌then◌else◌, codes, flat_map, Result}
use Rattle.std.specs.Prelude.{Ok, Err}
use Rattle.std.specs.Str.{bytes_eq}
use Rattle.std.specs.List.{position}
use Rattle.std.specs.Option.{option_map_or}
use Rattle.value_data.specs.Datum.{Datum, nil, string, keyword, symbol}
use Rattle.repl_values.specs.Print.{print}
use Rattle.repl_values.specs.Slash.{is_slash}
use Rattle.repl_values.specs.Failure.{Failure, ◌>>=◌, wrong_argument}
use Rattle.repl_values.specs.Arguments.{argument}
use Rattle.core_scalars.specs.Printing.{spaced_text}
use Rattle.core_scalars.specs.declared.text_function.TextFunction.{TextFunction}

-- nothing for nil, the characters of a string, and the print of all else
abbrev pub shown_text : Datum → List ℕ
shown_text nil = []
shown_text (string s) = s
shown_text d = print d

-- what follows the first slash, or all of it where there is none; a slash alone is all of it
unfoldable pub local_part : List ℕ → List ℕ
local_part text =
    if bytes_eq text (codes "/") then text
    else option_map_or (λ i. drop (i + 1) text) (position is_slash text) text

abbrev pub name_in : Datum → Result (List ℕ) Failure
name_in (string s) = Ok s
name_in (keyword s) = Ok (local_part s)
name_in (symbol s) = Ok (local_part s)
name_in d = Err (wrong_argument (codes "name") d)

unfoldable pub name_value : Datum → Result Datum Failure
name_value d = name_in d >>= λ s. Ok (string s)

unfoldable pub text_meaning : TextFunction → List Datum → Result Datum Failure
text_meaning TextFunction.Str args = Ok (string (flat_map shown_text args))
text_meaning TextFunction.PrStr args = Ok (string (spaced_text print args))
text_meaning TextFunction.Name args = name_value (argument 0 args)
