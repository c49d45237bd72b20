use Rattle.server_rules.proofs.Computing.{idle-costs-nothing}
use Rattle.server_rules.proofs.examples.idle_costs_nothing.Goals as goal

pub returns : goal.returns
returns c = idle-costs-nothing
