-- Tests of one value, of any kind.
use Rattle.std.specs.Prelude.{Bool, true, false, not}
use Rattle.value_data.specs.Datum.{Datum, nil, boolean, integer, string, keyword, symbol, list}
use Rattle.value_data.specs.Datum.{vector, map}
use Rattle.core_scalars.specs.declared.predicate_function.ValueTest.{ValueTest}

-- what a test takes for false: nil and false alone
abbrev pub is_falsy : Datum → Bool
is_falsy nil = true
is_falsy (boolean b) = not b
is_falsy _ = false

abbrev pub is_true : Datum → Bool
is_true (boolean b) = b
is_true _ = false

abbrev pub is_false : Datum → Bool
is_false (boolean b) = not b
is_false _ = false

abbrev pub is_nil : Datum → Bool
is_nil nil = true
is_nil _ = false

abbrev pub is_integer : Datum → Bool
is_integer (integer n) = true
is_integer _ = false

abbrev pub is_string : Datum → Bool
is_string (string s) = true
is_string _ = false

abbrev pub is_keyword : Datum → Bool
is_keyword (keyword s) = true
is_keyword _ = false

abbrev pub is_symbol : Datum → Bool
is_symbol (symbol s) = true
is_symbol _ = false

abbrev pub is_list : Datum → Bool
is_list (list ds) = true
is_list _ = false

abbrev pub is_vector : Datum → Bool
is_vector (vector ds) = true
is_vector _ = false

abbrev pub is_map : Datum → Bool
is_map (map ps) = true
is_map _ = false

unfoldable pub passes_value_test : ValueTest → Datum → Bool
passes_value_test ValueTest.Not d = is_falsy d
passes_value_test ValueTest.Nil d = is_nil d
passes_value_test ValueTest.Some d = not (is_nil d)
passes_value_test ValueTest.True d = is_true d
passes_value_test ValueTest.False d = is_false d
passes_value_test ValueTest.Int d = is_integer d
passes_value_test ValueTest.String d = is_string d
passes_value_test ValueTest.Keyword d = is_keyword d
passes_value_test ValueTest.Symbol d = is_symbol d
passes_value_test ValueTest.List d = is_list d
passes_value_test ValueTest.Vector d = is_vector d
passes_value_test ValueTest.Map d = is_map d
