-- What stands behind references, and peaks that may be lost.
use Rattle.std.specs.Prelude.{Option, Some, None}
use denote.Ref.{Bor}
use Rattle.value_data.specs.Datum.{Datum, Pairs}
use Rattle.value_data.specs.Inside.View.{view}
use Rattle.value_data.specs.declared.value.Value.{Value}
use Rattle.value_data.specs.Inside.Fits.{FitsPeaks}
use Rattle.value_data.specs.declared.node_measures.Peaks.{Peaks}

-- the pair that a key and a value behind references are
abbrev pub entry_view : Bor Value × Bor Value → Datum × Datum
entry_view e = (view e.0.now, view e.1.now)

-- the two parts of a pair
abbrev pub key_in : Datum × Datum → Datum
key_in p = p.0

abbrev pub value_of_pair : Datum × Datum → Datum
value_of_pair p = p.1

abbrev pub MayFit : Option Peaks → Pairs → Type 0
MayFit None ps = Unit {0}
MayFit (Some m) ps = FitsPeaks m ps
