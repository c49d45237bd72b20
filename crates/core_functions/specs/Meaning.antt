-- What each function is, group by group. Kinds of all arguments come first, from the left, then the
-- function's own faults, then the limits on its value. A function that prints gives nil.
use Rattle.std.specs.Prelude.{List}
use Rattle.value_data.specs.Datum.{Datum, nil}
use Rattle.core_scalars.specs.IntegerMeaning.{integer_meaning}
use Rattle.core_scalars.specs.PredicateMeaning.{predicate_meaning}
use Rattle.core_scalars.specs.TextMeaning.{text_meaning}
use Rattle.core_scalars.specs.Printing.{text_printed}
use Rattle.core_collections.specs.SequenceMeaning.{sequence_meaning}
use Rattle.core_collections.specs.MapMeaning.{map_meaning}
use Rattle.core_functions.specs.ApplyOutcome.{ApplyOutcome, gives, apply_outcome}
use Rattle.core_functions.specs.declared.function.CoreFunction.{CoreFunction}

abbrev pub meaning : CoreFunction → List Datum → ApplyOutcome
meaning (CoreFunction.Integer f) args = apply_outcome (integer_meaning f args)
meaning (CoreFunction.Predicate f) args = apply_outcome (predicate_meaning f args)
meaning (CoreFunction.Text f) args = apply_outcome (text_meaning f args)
meaning (CoreFunction.Sequence f) args = apply_outcome (sequence_meaning f args)
meaning (CoreFunction.Map f) args = apply_outcome (map_meaning f args)
meaning (CoreFunction.Print f) args = gives nil (text_printed f args)
