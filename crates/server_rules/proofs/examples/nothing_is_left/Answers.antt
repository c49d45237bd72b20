use Rattle.server_rules.proofs.Computing.{nothing-is-left}
use Rattle.server_rules.proofs.examples.nothing_is_left.Goals as goal

pub returns : goal.returns
returns c = nothing-is-left
