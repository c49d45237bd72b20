-- What a form is: a symbol with its name, a vector with its items, or a text.
use Rattle.std.specs.Prelude.{ℕ, List, Bool, true, false, Option, Some, None, if◌then◌else◌}
use Rattle.std.specs.Option.{option_and_then}
use Rattle.std.specs.List.{list_any}
use Rattle.value_data.specs.Datum.{Datum, string, symbol, vector}
use Rattle.value_data.specs.Listed.{listed}
use Rattle.repl_values.specs.Slash.{is_slash}

-- the name that a form is, where it is a symbol
unfoldable pub symbol_name : Datum → Option (List ℕ)
symbol_name (symbol s) = Some s
symbol_name _ = None

abbrev pub without_slash : List ℕ → Option (List ℕ)
without_slash name = if list_any is_slash name then None else Some name

-- the name that a form is, where it is a symbol without a slash
unfoldable pub simple_name : Datum → Option (List ℕ)
simple_name d = option_and_then without_slash (symbol_name d)

-- the items of a vector
unfoldable pub in_vector : Datum → Option (List Datum)
in_vector (vector ds) = Some (listed ds)
in_vector _ = None

unfoldable pub is_text : Datum → Bool
is_text (string s) = true
is_text _ = false
