use Rattle.repl_reader.proofs.Unique.{readings_are_unique}
use Rattle.repl_reader.proofs.laws.readings_are_unique.Goals as goal

pub returns : goal.returns
returns c = readings_are_unique
