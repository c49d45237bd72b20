use Rattle.std.proofs.Common.{◌≡◌, map, drop}
use Rattle.value_data.specs.Inside.View.{view}
use Rattle.value_data.specs.Inside.Seen.{entry_view}
use Rattle.core_collections.specs.Pairs.{pairs_in}
use Rattle.core_collections.proofs.SequenceValues.{with_front}
use Rattle.core_collections.proofs.joins.pairs_of.Given as goal

abbrev pub invariant-loop-argument : goal.invariant-loop-argument
invariant-loop-argument l =
    with_front (map entry_view l.pairs.items) (pairs_in l.function (map view (drop l.argument-index l.args))) ≡ pairs_in l.function (map view l.args)
