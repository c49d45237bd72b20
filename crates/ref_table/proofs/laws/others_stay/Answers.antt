use Rattle.ref_table.proofs.Values.{others-ref_named}
use Rattle.ref_table.proofs.laws.others_stay.Goals as goal

pub returns : goal.returns
returns c = λ s seat point intent name none. others-ref_named s seat point intent name none
