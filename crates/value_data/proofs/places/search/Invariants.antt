use Rattle.std.proofs.Common.{◌≡◌, ℕ, ◌<◌, ◌≤◌, ◌-◌, length}
use Rattle.std.specs.Prelude.{slice_index_or}
use Rattle.std.specs.List.{All}
use Rattle.std.specs.declared.cmp.Ordering.TheVariants.{Less}
use Rattle.value_data.specs.Inside.View.{view}
use Rattle.value_data.specs.Inside.Nodes.{entry_pairs}
use Rattle.value_data.specs.Inside.Order.{order, sort_key}
use Rattle.value_data.specs.Inside.Index.{key_at}
use Rattle.value_data.proofs.places.search.Given as goal

abbrev pub decreases-loop-low : goal.decreases-loop-low
decreases-loop-low l = l.high - l.low

abbrev pub invariant-loop-low : goal.invariant-loop-low
invariant-loop-low l = record {
  places : All (λ n. n < length l.entries.listed) l.index;
  ordered : l.low ≤ l.high;
  within : l.high ≤ length l.index;
  before : (i : ℕ) → i < l.low → order (key_at (entry_pairs l.entries) (slice_index_or l.index i 0)) (sort_key (view l.key)) ≡ Less;
  behind : (i : ℕ) → l.high ≤ i → i < length l.index → order (sort_key (view l.key)) (key_at (entry_pairs l.entries) (slice_index_or l.index i 0)) ≡ Less;
}
