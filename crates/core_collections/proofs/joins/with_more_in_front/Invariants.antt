use Rattle.std.proofs.Common.{◌≡◌, ◌++◌, drop, map, reverse}
use Rattle.value_data.specs.Listed.{listed}
use Rattle.value_data.specs.Inside.View.{view}
use Rattle.core_collections.proofs.joins.with_more_in_front.Given as goal

abbrev pub invariant-loop-value : goal.invariant-loop-value
invariant-loop-value l = reverse (map view (drop l.value-index l.more)) ++ listed l.items.items ≡ reverse (map view l.more) ++ listed l.initial.items.items
