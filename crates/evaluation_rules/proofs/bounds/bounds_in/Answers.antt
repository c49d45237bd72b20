use Rattle.evaluation_rules.proofs.Options.{left-behind}
use Rattle.evaluation_rules.proofs.bounds.bounds_in.Goals as goal

pub loop-left-preserved : goal.loop-left-preserved
loop-left-preserved c =
    left-behind _ _ c.loop-left.left.now c.index-left-0.result c.index-left-1.result _
    c.loop-left-test.true c.index-left-0.is c.index-left-1.is c.in_ok-bounds.ensures c.loop-left.invariant
