use Rattle.std.proofs.Common.{length}
use Rattle.value_data.proofs.value.ItemsTree.+from_vec.Given as goal

abbrev pub decreases-from_vec : goal.decreases-from_vec
decreases-from_vec l = length l.items.items
