use Rattle.std.proofs.Common.{◌≡◌, true, take, map}
use Rattle.value_data.specs.Inside.View.{pair_view}
use Rattle.value_data.specs.Inside.Nodes.{entry_pairs}
use Rattle.value_data.specs.Inside.Placed.{are_distinct}
use Rattle.value_data.specs.Inside.Index.{Indexes}
use Rattle.value_data.specs.Inside.Fits.{FitsPeaks}
use Rattle.value_data.proofs.building.built_one_by_one.Given as goal

abbrev pub invariant-loop-place : goal.invariant-loop-place
invariant-loop-place l = record {
  so_far : l.entries.listed ≡ take l.place (map pair_view l.pairs);
  distinct : are_distinct (entry_pairs l.entries) ≡ true;
  indexed : Indexes l.index (entry_pairs l.entries);
  peaked : FitsPeaks l.peaks (entry_pairs l.entries);
}
