use Rattle.std.specs.Cmp.{both_ways}
use Rattle.value_data.specs.Same.{same}
use Rattle.value_data.proofs.Equivalence.{same-sym}
use Rattle.repl_values.proofs.laws.same_is_symmetric.Goals as goal

pub returns : goal.returns
returns c = λ d e. both_ways (same d e) (same e d) (same-sym d e) (same-sym e d)
