use Rattle.std.proofs.Common.{arith}
use Rattle.std.proofs.lemmas.Grind.{common_steps}
use Rattle.ref_table.proofs.Once.{ids-append}
use Rattle.ref_table.proofs.Committing.{set-names, commuted-names}
use Rattle.ref_table.proofs.directory.Directory.ids_changing.Goals as goal

pub returns : goal.returns
returns c = grind (arith, common_steps, ids-append, set-names, commuted-names)
