use Rattle.std.proofs.Common.{◌≡◌, false}
use Rattle.walker_state.specs.Position.{outer_calls, outer_size}
use Rattle.repl_walker.specs.Waits.{WentOn}
use Rattle.repl_walker.specs.Positions.{walk_position}
use Rattle.repl_walker.specs.declared.waiting.Progress.{Progress}
use Rattle.repl_walker.proofs.run.until_a_call.Given as goal

abbrev pub invariant-loop-further : goal.invariant-loop-further
invariant-loop-further g l = record {
  goes_on : (g.R.Refs.heard l.refs).stopped ≡ false;
  came : WentOn l.initial.walk (g.R.Refs.heard l.initial.refs).trace (g.R.Refs.heard l.refs).trace (Progress.Asks l.walk);
  calls : outer_calls (walk_position l.walk) ≡ l.calls;
}

abbrev pub decreases-loop-further : goal.decreases-loop-further
decreases-loop-further g l = outer_size (walk_position l.walk)
