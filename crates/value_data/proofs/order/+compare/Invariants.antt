use Rattle.std.proofs.Common.{◌≡◌, ◌+◌, ◌*◌, ◌-◌, ◌≤◌, drop, map as each}
use Rattle.value_data.specs.Inside.View.{view, items_view}
use Rattle.value_data.specs.Inside.Nodes.{entry_pairs}
use Rattle.value_data.specs.Inside.Order.{order, chain, sort_key, items_sort_key}
use Rattle.value_data.specs.Inside.Index.{rows_at}
use Rattle.value_data.specs.Listed.{listed}
use Rattle.value_data.proofs.Chunks.{keys}
use Rattle.value_data.proofs.Size.{nodes, items_nodes, pairs_nodes}
use Rattle.value_data.proofs.order.+compare.Given as goal

abbrev pub decreases-compare : goal.decreases-compare
decreases-compare l = 8 * nodes (view l.left.now)

abbrev pub decreases-compare_sequences : goal.decreases-compare_sequences
decreases-compare_sequences l = 8 * items_nodes l.left.now.items + 3

abbrev pub decreases-compare_items : goal.decreases-compare_items
decreases-compare_items l = 8 * items_nodes l.left.now.items + 2

abbrev pub decreases-compare_chunks : goal.decreases-compare_chunks
decreases-compare_chunks l = 8 * items_nodes (items_view l.left.now) + 1

abbrev pub decreases-compare_maps : goal.decreases-compare_maps
decreases-compare_maps l = 8 * pairs_nodes l.left.now.pairs + 3

abbrev pub decreases-compare_rows : goal.decreases-compare_rows
decreases-compare_rows l = 8 * pairs_nodes (entry_pairs l.left.now) + 2

abbrev pub decreases-compare_pairs : goal.decreases-compare_pairs
decreases-compare_pairs l = 8 * (nodes (view l.left.0.now) + nodes (view l.left.1.now)) + 1

abbrev pub invariant-compare_items-loop-place : goal.invariant-compare_items-loop-place
invariant-compare_items-loop-place l = record {
  known : order (keys (drop l.place (listed l.left.items))) (keys (drop l.place (listed l.right.items)))
      ≡ order (items_sort_key l.left.items) (items_sort_key l.right.items);
  within : l.place ≤ l.count;
}

abbrev pub decreases-compare_items-loop-place : goal.decreases-compare_items-loop-place
decreases-compare_items-loop-place l = l.count - l.place

abbrev pub invariant-compare_chunks-loop-place : goal.invariant-compare_chunks-loop-place
invariant-compare_chunks-loop-place l =
    order (chain (each (λ v. sort_key (view v)) (drop l.place l.left))) (chain (each (λ v. sort_key (view v)) (drop l.place l.right)))
    ≡ order (items_sort_key (items_view l.left)) (items_sort_key (items_view l.right))

abbrev pub invariant-compare_rows-loop-rank : goal.invariant-compare_rows-loop-rank
invariant-compare_rows-loop-rank l =
    order (rows_at (entry_pairs l.left) (drop l.rank l.left_index)) (rows_at (entry_pairs l.right) (drop l.rank l.right_index))
    ≡ order (rows_at (entry_pairs l.left) l.left_index) (rows_at (entry_pairs l.right) l.right_index)
