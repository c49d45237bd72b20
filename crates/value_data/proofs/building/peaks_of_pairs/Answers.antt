use Rattle.std.proofs.Common.{take, subst, sym}
use Rattle.value_data.specs.Datum.{Pairs}
use Rattle.value_data.specs.Inside.View.{pairs_view}
use Rattle.value_data.specs.Inside.Fits.{FitsPeaks}
use Rattle.value_data.proofs.Ascending.{row-take}
use Rattle.value_data.proofs.building.peaks_of_pairs.Goals as goal

pub loop-key-preserved : goal.loop-key-preserved
loop-key-preserved c = record {
  so_far =
      subst (λ (ps : Pairs). FitsPeaks c.with_pair-peaks.result ps)
      (sym (row-take c.args.pairs.now c.loop-key.key-index c.loop-key-item.result c.loop-key-item.is c.loop-key-test.true))
      (c.with_pair-peaks.ensures (pairs_view (take c.loop-key.key-index c.args.pairs.now)) c.loop-key.invariant.so_far);
}
