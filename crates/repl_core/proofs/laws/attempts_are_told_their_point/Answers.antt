use Rattle.repl_core.proofs.AttemptTraces.{points-of-attempts, attempts-are-told}
use Rattle.repl_core.proofs.laws.attempts_are_told_their_point.Goals as goal

pub returns-clause-under_way : goal.returns-clause-under_way
returns-clause-under_way c = points-of-attempts

pub returns-clause-told : goal.returns-clause-told
returns-clause-told c = attempts-are-told
