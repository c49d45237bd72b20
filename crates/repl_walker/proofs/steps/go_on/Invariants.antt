use Rattle.std.proofs.Common.{◌≡◌}
use Rattle.walker_state.specs.Position.{control_calls, control_position, IsOn}
use Rattle.walker_state.specs.Pending.{tree}
use Rattle.repl_walker.proofs.steps.go_on.Given as goal

abbrev pub invariant-loop-end : goal.invariant-loop-end
invariant-loop-end l = record {
  meaning : tree l.control l.state ≡ tree l.initial.control l.initial.state;
  on : IsOn (control_position l.control l.state) (control_position l.initial.control l.initial.state);
}

abbrev pub decreases-loop-end : goal.decreases-loop-end
decreases-loop-end l = control_calls l.control l.state
