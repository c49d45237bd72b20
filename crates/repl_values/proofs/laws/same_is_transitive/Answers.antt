use Rattle.value_data.proofs.Transitive.{same-trans}
use Rattle.repl_values.proofs.laws.same_is_transitive.Goals as goal

pub returns : goal.returns
returns c = λ d e f. same-trans d e f
