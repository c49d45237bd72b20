-- An action as it begins, and as it ends.
use Rattle.std.specs.Prelude.{List, [], false, map, None, Some, Result, Ok, Err}
use Rattle.value_data.specs.Datum.{Datum, no_items}
use Rattle.value_data.specs.Inside.View.{view}
use Rattle.repl_values.specs.Failure.{Failure}
use Rattle.repl_values.specs.Inside.FaultView.{failure_of}
use Rattle.repl_asks.specs.Exchange.{Exchanged}
use Rattle.repl_asks.specs.Job.{JobData}
use Rattle.private_cells.specs.Actions.{ActionData}
use Rattle.private_cells.specs.Agents.{AgentsData, with_result, with_failure}
use Rattle.private_cells.specs.Inside.Seen.{action_view}
use Rattle.server_rules.specs.Asking.{sender_of}
use Rattle.server_rules.specs.Cells.{SenderData}
use Rattle.server_rules.specs.Cells as rules
use Rattle.server_rules.specs.Request.{Manner, of_action, WorkInHand}
use Rattle.server_rules.specs.declared.actor.Actor.{Actor}
use Rattle.tenant_asks.specs.Sends.{OutgoingData, outgoing_view, outgoing_in, trace_of, all_sent}
use Rattle.tenant_asks.specs.declared.sends.Outgoing.{Outgoing}
use Rattle.tenant_world.specs.declared.actions.ActionEnd.{ActionEnd}
use Rattle.tenant_world.specs.declared.actions.NextAction.{NextAction}

abbrev pub next_action_view : NextAction → rules.NextAction
next_action_view n = record { state = view n.state.now; action = action_view n.action.now }

-- the action in hand, which runs as this job
abbrev pub hand_of_action : ActionData → JobData → WorkInHand
hand_of_action action job = record {
  origin = action.origin;
  manner = of_action action.session;
  namespace = job.namespace;
  running = Some (record { job = job; trace = [] });
  forms = no_items;
  fault = None;
}

-- what the end of a form makes of the agents
pub data ActionEndData : Type 0 where
  -- it is no action
  nothing : ActionEndData
  -- the state of the agent, and what is sent
  finishes : Datum → List OutgoingData → ActionEndData
  fails : Failure → ActionEndData

abbrev pub action_end_view : ActionEnd → ActionEndData
action_end_view ActionEnd.Nothing = nothing
action_end_view (ActionEnd.Finishes state sends) =
    finishes (view state) (map outgoing_view sends.items)
action_end_view (ActionEnd.Fails fault) = fails (failure_of fault)

-- what is sent
abbrev pub sends_of : ActionEnd → List Outgoing
sends_of ActionEnd.Nothing = []
sends_of (ActionEnd.Finishes state sends) = sends.items
sends_of (ActionEnd.Fails fault) = []

abbrev pub end_by : Manner → SenderData → List Exchanged → Result Datum Failure → ActionEndData
end_by (of_action session) sender trace (Ok d) = finishes d (outgoing_in sender false trace)
end_by (of_action session) sender trace (Err f) = fails f
end_by manner sender trace r = nothing

abbrev pub action_end : Actor → WorkInHand → Result Datum Failure → ActionEndData
action_end a h r = end_by h.manner (sender_of a h) (trace_of h.running) r

abbrev pub agents_behind : ActionEndData → AgentsData → AgentsData
agents_behind nothing agents = agents
agents_behind (finishes d os) agents = all_sent os (with_result d agents)
agents_behind (fails f) agents = with_failure f agents
