-- What a `SessionState` is seen as.
use Rattle.std.specs.Arc.{arc_str_bytes}
use Rattle.value_data.specs.Inside.View.{view}
use Rattle.repl_sessions.specs.State.{StateData}
use Rattle.repl_sessions.specs.declared.state.SessionState.{SessionState}

abbrev pub state_view : SessionState → StateData
state_view s = record {
  namespace = arc_str_bytes s.namespace;
  one = view s.one;
  two = view s.two;
  three = view s.three;
  fault = view s.fault;
}
