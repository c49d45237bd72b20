use Rattle.server_rules.proofs.Computing.{try-is-made-again}
use Rattle.server_rules.proofs.examples.try_is_made_again.Goals as goal

pub returns : goal.returns
returns c = try-is-made-again
