use Rattle.server_rules.proofs.Computing.{read-is-retried}
use Rattle.server_rules.proofs.examples.read_is_retried.Goals as goal

pub returns : goal.returns
returns c = read-is-retried
