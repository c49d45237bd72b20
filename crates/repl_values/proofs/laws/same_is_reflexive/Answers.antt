use Rattle.value_data.proofs.Equivalence.{same-refl}
use Rattle.repl_values.proofs.laws.same_is_reflexive.Goals as goal

pub returns : goal.returns
returns c = λ d. same-refl d
