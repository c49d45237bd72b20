use Rattle.std.proofs.Common.{◌≡◌, ◌++◌, map, length}
use Rattle.value_data.specs.Inside.View.{view}
use Rattle.value_data.specs.Inside.Seen.{entry_view}
use Rattle.core_collections.specs.MapArguments as meant
use Rattle.core_collections.proofs.arguments.by_turns.Given as goal

abbrev pub invariant-loop-left : goal.invariant-loop-left
invariant-loop-left l = record {
  pairs : map entry_view l.pairs.items ++ meant.by_turns (map view l.left) ≡ meant.by_turns (map view l.args);
  left : meant.left_alone (map view l.left) ≡ meant.left_alone (map view l.args);
}

abbrev pub decreases-loop-left : goal.decreases-loop-left
decreases-loop-left l = length l.left
