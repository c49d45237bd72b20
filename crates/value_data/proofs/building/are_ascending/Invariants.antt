use Rattle.std.proofs.Common.{◌≡◌, ℕ, ◌+◌, ◌<◌, ◌≤◌, get_or}
use Rattle.std.specs.declared.cmp.Ordering.TheVariants.{Less}
use Rattle.value_data.specs.Inside.Order.{order}
use Rattle.value_data.specs.Inside.View.{pairs_view}
use Rattle.value_data.specs.Inside.Index.{key_at}
use Rattle.value_data.proofs.building.are_ascending.Given as goal

abbrev pub invariant-loop-rank : goal.invariant-loop-rank
invariant-loop-rank l = record {
  some : 1 ≤ l.rank;
  so_far : (i : ℕ) → i + 1 < l.rank → order (key_at (pairs_view l.pairs) (get_or l.order i 0)) (key_at (pairs_view l.pairs) (get_or l.order (i + 1) 0)) ≡ Less;
}
