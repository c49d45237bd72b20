-- Who sent something to which agent.
use Rattle.std.specs.Prelude.{nat_eq, Bool, ◌&&◌}
use Rattle.std.specs.Option.{option_eq}
use Rattle.private_cells.specs.declared.counts.AgentSender.{AgentSender}

abbrev pub same_sender : AgentSender → AgentSender → Bool
same_sender x y = nat_eq x.agent y.agent && option_eq nat_eq x.session y.session
