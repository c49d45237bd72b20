use Rattle.std.proofs.Common.{sym, arith}
use Rattle.value_data.proofs.Sums.{hash-linear}
use Rattle.value_data.proofs.node_measures.ItemsMeasure.hash.Goals as goal

pub returns : goal.returns
returns c = λ xs f. rw (f.factored, f.added) (sym (hash-linear 7 xs (omega arith)))
