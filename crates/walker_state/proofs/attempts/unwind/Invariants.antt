use Rattle.std.proofs.Common.{◌≡◌, length}
use Rattle.walker_state.specs.Pending.{kept_of, place_of}
use Rattle.walker_state.specs.Frames.{bottom}
use Rattle.walker_state.proofs.attempts.unwind.Given as goal

abbrev pub invariant-loop-frame : goal.invariant-loop-frame
invariant-loop-frame l = record {
  place : bottom l.state.frames.items (place_of l.state) ≡ bottom l.initial.state.frames.items (place_of l.initial.state);
  kept : kept_of l.state ≡ kept_of l.initial.state;
  text : l.state.text ≡ l.initial.state.text;
  setting : l.state.setting ≡ l.initial.state.setting;
  calls : l.state.calls ≡ l.initial.state.calls;
  transaction : l.state.transaction ≡ l.initial.state.transaction;
}

abbrev pub decreases-loop-frame : goal.decreases-loop-frame
decreases-loop-frame l = length l.state.frames.items
