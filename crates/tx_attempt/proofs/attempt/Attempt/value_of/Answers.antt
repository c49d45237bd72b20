use Rattle.repl_asks.specs.Accesses.{attempt_value}
use Rattle.tx_attempt.specs.Inside.Seen.{attempt_view}
use Rattle.tx_attempt.proofs.attempt.Attempt.value_of.Goals as goal

pub returns : goal.returns
unfolding attempt_value attempt_view
returns c = c.value_of.ensures
