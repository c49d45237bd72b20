use Rattle.std.proofs.Common.{take}
use Rattle.value_data.specs.Inside.View.{pairs_view}
use Rattle.value_data.specs.Inside.Fits.{FitsPeaks}
use Rattle.value_data.proofs.building.peaks_of_pairs.Given as goal

abbrev pub invariant-loop-key : goal.invariant-loop-key
invariant-loop-key l = record { so_far : FitsPeaks l.peaks (pairs_view (take l.key-index l.pairs)) }
