use Rattle.std.proofs.Common.{ap}
use Rattle.std.specs.Prelude.{option_map}
use Rattle.server_rules.specs.Isolation.View.{part_view}
use Rattle.server_rules.proofs.Steps.{step-other}
use Rattle.server_rules.proofs.laws.others_leave_it.Goals as goal

pub returns : goal.returns
returns c = λ g w s t other. ap (option_map part_view) (step-other g w s t other)
