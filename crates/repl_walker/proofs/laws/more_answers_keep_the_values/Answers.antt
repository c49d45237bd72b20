use Rattle.repl_walker.proofs.Values.{values-stay}
use Rattle.repl_walker.proofs.laws.more_answers_keep_the_values.Goals as goal

pub returns : goal.returns
returns c = values-stay
