use Rattle.ref_table.proofs.Values.{commuted-is_folded}
use Rattle.ref_table.proofs.laws.commuted_is_folded.Goals as goal

pub returns : goal.returns
returns c = λ s seat point intent commuted told has.
    commuted-is_folded s seat point intent commuted told has
