use Rattle.value_data.proofs.Ties.{ties}
use Rattle.repl_values.proofs.laws.only_equal_values_tie.Goals as goal

pub returns : goal.returns
returns c = λ d e. ties d e
