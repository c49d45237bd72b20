use Rattle.connection_waits.proofs.Numbers.{forks}
use Rattle.connection_waits.proofs.feeding.another_ticket.Goals as goal

pub another-requires-clause-rule : goal.another-requires-clause-rule
another-requires-clause-rule c = forks _ _ c.requires.sends
