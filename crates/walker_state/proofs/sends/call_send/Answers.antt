use Rattle.std.proofs.Common.{arith, ap, rules, Ok, Err}
use Rattle.value_data.specs.Inside.View.{view, views}
use Rattle.repl_values.specs.Inside.FaultView.{failure_of}
use Rattle.repl_asks.specs.Inside.View.{ask_view, named_view, sending_view, task_view}
use Rattle.repl_asks.specs.declared.sends.Task.{Task}
use Rattle.evaluation_rules.specs.Inside.View.{addressed_view}
use Rattle.walker_state.proofs.Taking.{no_items, first-removed}
use Rattle.walker_state.proofs.Sent.{send_call-empty, send_call-refused, send_call-asks}
use Rattle.walker_state.proofs.Sent.{addressed-told}
use Rattle.walker_state.proofs.sends.call_send.Goals as goal

pub returns-then-is_empty-clause-meaning : goal.returns-then-is_empty-clause-meaning
returns-then-is_empty-clause-meaning c =
    let vs = c.args.values in
    send_call-empty c.args.by (named_view c.args.function) vs.items _ c.args.state.now
    (no_items vs.items vs.len (omega (arith, vs.ok)) c.if-is_empty.ensures) (search rules)

pub returns-in-Refused-clause-meaning : goal.returns-in-Refused-clause-meaning
returns-in-Refused-clause-meaning c =
    let vs = c.args.values in
    let taken = c.remove-target in
    let given = first-removed vs.items taken.new.self.items taken.result vs.len (omega (arith, vs.ok)) c.if-is_empty.ensures taken.ensures.value taken.ensures.items in
    let told = addressed-told _ (Err (failure_of c.in-Refused.fault)) c.args.by (view taken.result) c.in_ok-fault-2.ensures (ap addressed_view c.in-Refused.is) in
    send_call-refused c.args.by (named_view c.args.function) (view taken.result) (views taken.new.self.items) vs.items _ c.args.state.now given told

pub returns-in_ok-copy-in-Agent-clause-meaning : goal.returns-in_ok-copy-in-Agent-clause-meaning
returns-in_ok-copy-in-Agent-clause-meaning c =
    let vs = c.args.values in
    let taken = c.remove-target in
    let given = first-removed vs.items taken.new.self.items taken.result vs.len (omega (arith, vs.ok)) c.if-is_empty.ensures taken.ensures.value taken.ensures.items in
    let told = addressed-told _ (Ok c.in-Agent.agent) c.args.by (view taken.result) c.in_ok-fault-2.ensures (ap addressed_view c.in-Agent.is) in
    send_call-asks c.args.by (named_view c.args.function) (view taken.result) (views taken.new.self.items) c.in-Agent.agent
    (ask_view c.ask_to_send.result) _ (sending_view c.in_ok-copy-in-Agent.field-0) vs.items c.args.state.now given told
    (ap (λ (t : Task). record { agent = c.in-Agent.agent; task = task_view t }) c.in_ok-task-in-Agent.ensures.ok)
    c.in_ok-copy-in-Agent.ensures c.ask_to_send.ensures
