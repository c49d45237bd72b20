use Rattle.server_rules.proofs.Computing.{close-interrupts}
use Rattle.server_rules.proofs.examples.close_interrupts.Goals as goal

pub returns : goal.returns
returns c = close-interrupts
