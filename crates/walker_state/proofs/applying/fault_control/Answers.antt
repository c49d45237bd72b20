use Rattle.walker_state.proofs.Printing.{fails-told}
use Rattle.walker_state.proofs.applying.fault_control.Goals as goal

pub returns-in-Fault-clause-meaning : goal.returns-in-Fault-clause-meaning
returns-in-Fault-clause-meaning c = λ o told s. fails-told o _ _ s told c.in-Fault.is
