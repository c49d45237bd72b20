use Rattle.machine_runs.proofs.Alone.{given-same}
use Rattle.machine_runs.proofs.laws.alone_is_given_the_same.Goals as goal

pub returns : goal.returns
returns c = given-same
