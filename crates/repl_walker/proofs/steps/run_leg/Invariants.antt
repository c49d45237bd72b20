use Rattle.std.proofs.Common.{◌≡◌, ◌≤◌, ◌+◌}
use Rattle.walker_state.specs.Size.{control_size, frames_size}
use Rattle.walker_state.specs.Position.{control_around, control_calls}
use Rattle.walker_state.specs.Pending.{tree}
use Rattle.repl_walker.proofs.steps.run_leg.Given as goal

abbrev pub invariant-loop-control : goal.invariant-loop-control
invariant-loop-control l = record {
  meaning : tree l.control l.state ≡ tree l.initial.control l.initial.state;
  transaction : control_around l.control l.state ≡ control_around l.initial.control l.initial.state;
  calls : control_calls l.control l.state ≤ control_calls l.initial.control l.initial.state;
  size : control_size l.control + frames_size l.state.frames.items ≤ control_size l.initial.control + frames_size l.initial.state.frames.items;
}

abbrev pub decreases-loop-control : goal.decreases-loop-control
decreases-loop-control l = control_size l.control + frames_size l.state.frames.items
