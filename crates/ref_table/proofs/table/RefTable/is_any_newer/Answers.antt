use Rattle.std.proofs.Common.{arith}
use Rattle.std.proofs.lemmas.Grind.{common_steps}
use Rattle.ref_table.proofs.table.RefTable.is_any_newer.Goals as goal

pub loop-name-preserved : goal.loop-name-preserved
loop-name-preserved g c = λ r points h.
    grind (arith, common_steps, c.loop-name.invariant r points h, c.is_newer.ensures r points h)
