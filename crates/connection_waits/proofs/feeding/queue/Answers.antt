use Rattle.connection_waits.proofs.Numbers.{begins}
use Rattle.connection_waits.proofs.feeding.queue.Goals as goal

pub bounded_with-requires-clause-rule : goal.bounded_with-requires-clause-rule
bounded_with-requires-clause-rule c = begins
