use Rattle.std.proofs.Common.{◌≡◌, ◌++◌, drop, map}
use Rattle.value_data.specs.Listed.{listed}
use Rattle.value_data.specs.Inside.View.{view}
use Rattle.core_collections.proofs.joins.with_more_behind.Given as goal

abbrev pub invariant-loop-value : goal.invariant-loop-value
invariant-loop-value l = listed l.items.items ++ map view (drop l.value-index l.more) ≡ listed l.initial.items.items ++ map view l.more
