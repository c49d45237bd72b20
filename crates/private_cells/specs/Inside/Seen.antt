-- What actions and agents stand for.
use Rattle.std.specs.Prelude.{List, map, option_map}
use Rattle.std.specs.Arc.{arc_value}
use Rattle.value_data.specs.Inside.View.{view}
use Rattle.repl_values.specs.Inside.FaultView.{failure_of}
use Rattle.repl_asks.specs.Inside.View.{task_view}
use Rattle.repl_replies.specs.Inside.View.{origin_view}
use Rattle.private_cells.specs.Actions.{ActionData}
use Rattle.private_cells.specs.Agents.{SentAction, AgentData}
use Rattle.private_cells.specs.declared.action.Action.{Action}
use Rattle.private_cells.specs.declared.action.Sent.{Sent}
use Rattle.private_cells.specs.declared.cells.Cell.{Cell}

abbrev pub action_view : Action → ActionData
action_view a = record {
  task = task_view (arc_value a.task);
  origin = origin_view (arc_value a.origin);
  session = a.session;
}

abbrev pub sent_view : Sent → SentAction
sent_view x = record { number = x.number; action = action_view x.action }

abbrev pub cell_view : Cell → AgentData
cell_view c = record {
  state = view c.state;
  fault = option_map failure_of c.fault;
  waiting = map sent_view c.waiting;
  running = option_map sent_view c.running;
}

abbrev pub cells_view : List Cell → List AgentData
cells_view cs = map cell_view cs
