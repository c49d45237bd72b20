use Rattle.connection_waits.proofs.Numbers.{gets}
use Rattle.connection_waits.proofs.feeding.take.Goals as goal

pub recv_as-requires-clause-rule : goal.recv_as-requires-clause-rule
recv_as-requires-clause-rule g c = (gets _ _ c.requires.takes, λ _ _ _ _. tt)
