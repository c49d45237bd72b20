use Rattle.std.proofs.Common.{◌≡◌, map, drop}
use Rattle.value_data.specs.Inside.Seen.{entry_view}
use Rattle.core_collections.specs.MapArguments.{places_in}
use Rattle.core_collections.specs.Inside.View.{indexed_view}
use Rattle.core_collections.proofs.MapValues.{with_front}
use Rattle.core_collections.proofs.arguments.places_of.Given as goal

abbrev pub invariant-loop-index : goal.invariant-loop-index
invariant-loop-index l =
    with_front (map indexed_view l.places.items) (places_in l.function (map entry_view (drop l.index-index l.pairs))) ≡ places_in l.function (map entry_view l.pairs)
