use Rattle.value_data.specs.Inside.Nodes.{held}
use Rattle.value_data.proofs.reads.+item_at.Given as goal

abbrev pub decreases-item_at : goal.decreases-item_at
decreases-item_at l = held l.shape.now
