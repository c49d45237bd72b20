use Rattle.value_data.proofs.Equivalence.{items-refl}
use Rattle.repl_values.proofs.laws.list_is_same_as_vector.Goals as goal

pub returns : goal.returns
returns c = λ ds. items-refl ds
