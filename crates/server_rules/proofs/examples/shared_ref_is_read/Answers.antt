use Rattle.server_rules.proofs.Computing.{shared-ref-is-read}
use Rattle.server_rules.proofs.examples.shared_ref_is_read.Goals as goal

pub returns : goal.returns
returns c = shared-ref-is-read
