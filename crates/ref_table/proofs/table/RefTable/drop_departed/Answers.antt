use Rattle.ref_table.proofs.table.RefTable.drop_departed.Goals as goal

pub loop-done-preserved : goal.loop-done-preserved
loop-done-preserved g c = λ r s. c.drop_next.ensures r (c.loop-done.invariant r s)
