use Rattle.server_rules.proofs.Computing.{two-are-apart}
use Rattle.server_rules.proofs.examples.two_are_apart.Goals as goal

pub returns : goal.returns
returns c = two-are-apart
