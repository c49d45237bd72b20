use Rattle.std.proofs.Common.{◌≡◌, ◌+◌, ◌*◌, ◌-◌, ◌≤◌, take, map as each}
use Rattle.value_data.specs.Listed.{listed}
use Rattle.value_data.specs.Inside.View.{view, items_view}
use Rattle.value_data.proofs.Size.{nodes, items_nodes, pairs_nodes}
use Rattle.trace_comparison.proofs.values.+same_value.Given as goal

abbrev pub decreases-same_value : goal.decreases-same_value
decreases-same_value l = 8 * nodes (view l.left.now)

abbrev pub decreases-same_sequence : goal.decreases-same_sequence
decreases-same_sequence l = 8 * items_nodes l.left.now.items + 3

abbrev pub decreases-same_items : goal.decreases-same_items
decreases-same_items l = 8 * items_nodes l.left.now.items + 2

abbrev pub decreases-same_chunks : goal.decreases-same_chunks
decreases-same_chunks l = 8 * items_nodes (items_view l.left.now) + 1

abbrev pub decreases-same_table : goal.decreases-same_table
decreases-same_table l = 8 * pairs_nodes l.left.now.pairs + 4

abbrev pub invariant-same_items-loop-place : goal.invariant-same_items-loop-place
invariant-same_items-loop-place l = record {
  within : l.place ≤ l.count;
  before : take l.place (listed l.left.items) ≡ take l.place (listed l.right.items);
}

abbrev pub decreases-same_items-loop-place : goal.decreases-same_items-loop-place
decreases-same_items-loop-place l = l.count - l.place

abbrev pub invariant-same_chunks-loop-place : goal.invariant-same_chunks-loop-place
invariant-same_chunks-loop-place l = take l.place (each view l.left) ≡ take l.place (each view l.right)
