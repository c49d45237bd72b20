use Rattle.repl_values.proofs.Inside.{nesting-part}
use Rattle.repl_values.proofs.laws.parts_are_less_nested.Goals as goal

pub returns : goal.returns
returns c = λ d e. nesting-part d e
