use Rattle.std.proofs.Common.{◌≡◌, false}
use Rattle.repl_walker.specs.Waits.{WentOn}
use Rattle.repl_walker.specs.Positions.{walk_position, rank_left, IsOuterProgress}
use Rattle.repl_walker.proofs.run.out_of_transaction.Given as goal

abbrev pub invariant-loop-progress : goal.invariant-loop-progress
invariant-loop-progress g l = record {
  goes_on : (g.R.Refs.heard l.refs).stopped ≡ false;
  came : WentOn l.fn.walk (g.R.Refs.heard l.fn.refs).trace (g.R.Refs.heard l.refs).trace l.progress;
  outer : IsOuterProgress l.progress (walk_position l.fn.walk);
}

abbrev pub decreases-loop-progress : goal.decreases-loop-progress
decreases-loop-progress g l = rank_left l.progress
