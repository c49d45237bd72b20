use Rattle.std.proofs.Common.{ap, unwrap_or}
use Rattle.private_cells.proofs.counts.Counts.reserve.Goals as goal

pub returns-clause-same : goal.returns-clause-same
returns-clause-same c = λ q. ap (λ o. unwrap_or o 0) (c.reserve.ensures.entries.2 q)
