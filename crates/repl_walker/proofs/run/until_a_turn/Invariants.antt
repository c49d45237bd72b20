use Rattle.std.proofs.Common.{◌≡◌, true, false}
use Rattle.repl_walker.specs.Waits.{WentOn}
use Rattle.repl_walker.specs.Positions.{walk_position, IsOuter}
use Rattle.repl_walker.specs.declared.waiting.Progress.{Progress}
use Rattle.repl_walker.proofs.run.until_a_turn.Given as goal

abbrev pub invariant-loop-further : goal.invariant-loop-further
invariant-loop-further g l = record {
  goes_on : (g.R.Refs.heard l.refs).stopped ≡ false;
  came : WentOn l.initial.walk (g.R.Refs.heard l.initial.refs).trace (g.R.Refs.heard l.refs).trace (Progress.Asks l.walk);
  inside : (walk_position l.walk).transaction.runs ≡ true;
  turn : (walk_position l.walk).transaction.turn ≡ l.turn;
  calls : (walk_position l.walk).calls ≡ l.calls;
  outer : IsOuter (walk_position l.walk) (walk_position l.initial.walk);
}

abbrev pub decreases-loop-further : goal.decreases-loop-further
decreases-loop-further g l = (walk_position l.walk).size
