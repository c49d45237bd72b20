use Rattle.machine_runs.proofs.AmongMany.{served-first}
use Rattle.machine_runs.proofs.laws.served_alone_is_served.Goals as goal

pub returns : goal.returns
returns c = served-first
