use Rattle.ref_table.proofs.Values.{met-none_newer}
use Rattle.ref_table.proofs.laws.committed_met_nothing_newer.Goals as goal

pub returns : goal.returns
returns c = λ s seat point intent name told has. met-none_newer s seat point intent name told has
