use Rattle.std.proofs.Common.{subst, sym, arith}
use Rattle.value_data.specs.Datum.{Pairs}
use Rattle.value_data.specs.Inside.Fits.{FitsPeaks}
use Rattle.value_data.specs.Inside.Seen.{entry_view}
use Rattle.value_data.proofs.Tables.{take-behind}
use Rattle.value_data.proofs.edits.peaks_of.Goals as goal

pub loop-place-preserved : goal.loop-place-preserved
loop-place-preserved c =
    subst (λ (ps : Pairs). FitsPeaks c.with_pair-peaks.result ps)
    (sym (take-behind c.args.entries.now.listed c.loop-place.place (entry_view c.pair.result) c.pair.ensures (omega (arith, c.loop-place-test.true, c.len-place-end.ensures.count))))
    (c.with_pair-peaks.ensures _ c.loop-place.invariant)
