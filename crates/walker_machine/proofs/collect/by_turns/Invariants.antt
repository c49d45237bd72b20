use Rattle.std.proofs.Common.{◌≡◌, ◌++◌, length, map}
use Rattle.std.specs.Prelude.{zip}
use Rattle.value_data.specs.Inside.View.{pair_view, views}
use Rattle.evaluation_rules.specs.Collections.{keys_in, values_in}
use Rattle.walker_machine.proofs.collect.by_turns.Given as goal

abbrev pub invariant-loop-key : goal.invariant-loop-key
invariant-loop-key l = record {
  keys : views l.keys.items ++ keys_in (views l.row.items) ≡ keys_in (views l.initial.row.items);
  pairs : map pair_view l.pairs.items ++ zip (keys_in (views l.row.items)) (values_in (views l.row.items))
      ≡ zip (keys_in (views l.initial.row.items)) (values_in (views l.initial.row.items));
}

abbrev pub decreases-loop-key : goal.decreases-loop-key
decreases-loop-key l = length l.row.items
