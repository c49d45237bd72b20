use Rattle.server_rules.proofs.Computing.{both-commute}
use Rattle.server_rules.proofs.examples.both_commute.Goals as goal

pub returns : goal.returns
returns c = both-commute
