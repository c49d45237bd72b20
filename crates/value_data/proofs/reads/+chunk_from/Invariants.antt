use Rattle.value_data.specs.Inside.Nodes.{held}
use Rattle.value_data.proofs.reads.+chunk_from.Given as goal

abbrev pub decreases-chunk_from : goal.decreases-chunk_from
decreases-chunk_from l = held l.shape.now
