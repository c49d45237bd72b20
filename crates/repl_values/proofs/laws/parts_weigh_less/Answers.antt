use Rattle.repl_values.proofs.Inside.{weight-part}
use Rattle.repl_values.proofs.laws.parts_weigh_less.Goals as goal

pub returns : goal.returns
returns c = λ d e. weight-part d e
