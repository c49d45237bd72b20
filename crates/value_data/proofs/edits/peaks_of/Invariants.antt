use Rattle.std.proofs.Common.{take}
use Rattle.value_data.specs.Listed.{pairs_of}
use Rattle.value_data.specs.Inside.Fits.{FitsPeaks}
use Rattle.value_data.proofs.edits.peaks_of.Given as goal

abbrev pub invariant-loop-place : goal.invariant-loop-place
invariant-loop-place l = FitsPeaks l.peaks (pairs_of (take l.place l.entries.listed))
