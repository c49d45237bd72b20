use Rattle.server_rules.proofs.Computing.{place-is-freed}
use Rattle.server_rules.proofs.examples.place_is_freed.Goals as goal

pub returns : goal.returns
returns c = place-is-freed
