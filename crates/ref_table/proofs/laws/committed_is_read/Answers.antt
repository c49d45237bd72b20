use Rattle.ref_table.proofs.Values.{set-is_read}
use Rattle.ref_table.proofs.laws.committed_is_read.Goals as goal

pub returns : goal.returns
returns c = λ s seat point intent change told has. set-is_read s seat point intent change told has
