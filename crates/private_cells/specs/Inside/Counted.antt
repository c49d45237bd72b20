-- What the counts say.
use Rattle.std.specs.Prelude.{ℕ, unwrap_or}
use Rattle.std.specs.HashMap.{get}
use Rattle.private_cells.specs.Inside.Sender.{same_sender}
use Rattle.private_cells.specs.declared.counts.AgentSender.{AgentSender}
use Rattle.private_cells.specs.declared.counts.Counts.{Counts}

abbrev pub count_of : Counts → AgentSender → ℕ
count_of c sender = unwrap_or (get same_sender c.counts sender) 0
