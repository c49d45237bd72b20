use Rattle.ref_table.specs.Refs.{TableRefs}
use Rattle.ref_table.specs.Standing.{TableStands}
use Rattle.ref_table.proofs.table.RefTable.drop_departed.Given as goal

abbrev pub invariant-loop-done : goal.invariant-loop-done
invariant-loop-done g l = (r : TableRefs) → TableStands g.H.History.stands l.fn.self r
    → TableStands g.H.History.stands l.self r
