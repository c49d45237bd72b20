use Rattle.value_data.specs.Inside.Nodes.{held}
use Rattle.value_data.proofs.reads.+copy_into.Given as goal

abbrev pub decreases-copy_into : goal.decreases-copy_into
decreases-copy_into l = held l.shape.now
