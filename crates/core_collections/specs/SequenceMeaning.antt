-- What each function of sequences is. Kinds of all arguments come first, from the left, then the
-- function's own faults.
use Rattle.std.specs.Prelude.{ℕ, ◌-◌, pos, ◌==◌, List, ◌∷◌, ◌++◌, length, reverse, drop, slice_get}
use Rattle.std.specs.Prelude.{chars, Option, Some, None, Result, Ok, Err}
use Rattle.value_data.specs.Datum.{Datum, nil, boolean, integer, string, list, vector, map}
use Rattle.value_data.specs.Listed.{listed}
use Rattle.value_data.specs.Put.{put_pairs}
use Rattle.repl_values.specs.Failure.{Failure, ◌>>=◌, wrong_argument, out_of_bounds}
use Rattle.repl_values.specs.Arguments.{argument, integer_in, item_or_nil, at_index}
use Rattle.repl_values.specs.Items.{items_in, row_in}
use Rattle.repl_values.specs.Making.{list_of, vector_of, list_or_nil}
use Rattle.core_collections.specs.SequenceNames.{name_of_sequence_function}
use Rattle.core_collections.specs.Pairs.{pairs_in}
use Rattle.core_collections.specs.declared.sequence_function.SequenceFunction.{SequenceFunction}

unfoldable pub first : Datum → Result Datum Failure
first d = items_in (name_of_sequence_function SequenceFunction.First) d
    >>= λ ds. Ok (item_or_nil 0 ds)

unfoldable pub last : Datum → Result Datum Failure
last d = items_in (name_of_sequence_function SequenceFunction.Last) d
    >>= λ ds. Ok (item_or_nil (length ds - 1) ds)

-- the items behind the first
abbrev pub items_but_first : List ℕ → Datum → Result (List Datum) Failure
items_but_first function d = items_in function d >>= λ ds. Ok (drop 1 ds)

unfoldable pub rest : Datum → Result Datum Failure
rest d = items_but_first (name_of_sequence_function SequenceFunction.Rest) d
    >>= λ ds. Ok (list_of ds)

unfoldable pub next : Datum → Result Datum Failure
next d = items_but_first (name_of_sequence_function SequenceFunction.Next) d
    >>= λ ds. Ok (list_or_nil ds)

unfoldable pub reversed_list : Datum → Result Datum Failure
reversed_list d = items_in (name_of_sequence_function SequenceFunction.Reverse) d
    >>= λ ds. Ok (list_of (reverse ds))

unfoldable pub cons : Datum → Datum → Result Datum Failure
cons d e = items_in (name_of_sequence_function SequenceFunction.Cons) e
    >>= λ ds. Ok (list_of (d ∷ ds))

-- put into the collection one after another: in front of a list, at the end of a vector, into a map
-- as pairs
unfoldable pub conj : Datum → List Datum → Result Datum Failure
conj nil more = Ok (list_or_nil (reverse more))
conj (list ds) more = Ok (list_of (reverse more ++ listed ds))
conj (vector ds) more = Ok (vector_of (listed ds ++ more))
conj (map ps) more = pairs_in (name_of_sequence_function SequenceFunction.Conj) more
    >>= λ qs. Ok (map (put_pairs ps qs))
conj d more = Err (wrong_argument (name_of_sequence_function SequenceFunction.Conj) d)

-- how many items, or how many characters of a string
unfoldable pub length_in : List ℕ → Datum → Result ℕ Failure
length_in function (string s) = Ok (length (chars s))
length_in function d = items_in function d >>= λ ds. Ok (length ds)

unfoldable pub count : Datum → Result Datum Failure
count d = length_in (name_of_sequence_function SequenceFunction.Count) d
    >>= λ n. Ok (integer (pos n))

unfoldable pub is_empty : Datum → Result Datum Failure
is_empty d = length_in (name_of_sequence_function SequenceFunction.IsEmpty) d
    >>= λ n. Ok (boolean (n == 0))

-- what there is, or else what stands in its place, or else nil of nil, or else the fault
abbrev pub found_or : Option Datum → Option Datum → Datum → Result Datum Failure
found_or (Some e) other d = Ok e
found_or None (Some e) d = Ok e
found_or None None nil = Ok nil
found_or None None d = Err out_of_bounds

unfoldable pub nth : Datum → Datum → Option Datum → Result Datum Failure
nth d i other =
    row_in (name_of_sequence_function SequenceFunction.Nth) d
    >>= λ ds. (integer_in (name_of_sequence_function SequenceFunction.Nth) i
    >>= λ n. found_or (at_index n ds) other d)

unfoldable pub sequence_meaning : SequenceFunction → List Datum → Result Datum Failure
sequence_meaning SequenceFunction.List args = Ok (list_of args)
sequence_meaning SequenceFunction.Vector args = Ok (vector_of args)
sequence_meaning SequenceFunction.First args = first (argument 0 args)
sequence_meaning SequenceFunction.Last args = last (argument 0 args)
sequence_meaning SequenceFunction.Rest args = rest (argument 0 args)
sequence_meaning SequenceFunction.Next args = next (argument 0 args)
sequence_meaning SequenceFunction.Reverse args = reversed_list (argument 0 args)
sequence_meaning SequenceFunction.Cons args = cons (argument 0 args) (argument 1 args)
sequence_meaning SequenceFunction.Conj args = conj (argument 0 args) (drop 1 args)
sequence_meaning SequenceFunction.Count args = count (argument 0 args)
sequence_meaning SequenceFunction.IsEmpty args = is_empty (argument 0 args)
sequence_meaning SequenceFunction.Nth args =
    nth (argument 0 args) (argument 1 args) (slice_get args 2)
