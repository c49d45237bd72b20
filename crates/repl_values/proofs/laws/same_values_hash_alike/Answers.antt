use Rattle.value_data.proofs.Hashes.{hash-same}
use Rattle.repl_values.proofs.laws.same_values_hash_alike.Goals as goal

pub returns : goal.returns
returns c = λ d e. hash-same d e
