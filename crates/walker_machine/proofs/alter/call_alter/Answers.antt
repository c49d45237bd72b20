use Rattle.std.proofs.Common.{arith, ap, refl, rules, Ok, Err}
use Rattle.value_data.specs.Inside.View.{view, views}
use Rattle.repl_values.specs.Inside.FaultView.{failure_of}
use Rattle.repl_asks.specs.Inside.View.{name_view, named_view}
use Rattle.evaluation_rules.specs.Inside.View.{altered_view}
use Rattle.evaluation_rules.specs.Evaluation.{value_at}
use Rattle.walker_state.proofs.Taking.{no_items, first-removed}
use Rattle.walker_machine.proofs.Evaluating.{if_ok-turned}
use Rattle.walker_machine.proofs.Altering.{altered-told, alter_call-empty, alter_call-refused, alter_call-reads}
use Rattle.walker_machine.proofs.alter.call_alter.Goals as goal

pub returns-then-is_empty-clause-meaning : goal.returns-then-is_empty-clause-meaning
returns-then-is_empty-clause-meaning c =
    let vs = c.args.values in
    alter_call-empty (value_at c.args.room) c.args.by (named_view c.args.function) vs.items _ c.args.state.now
    (no_items vs.items vs.len (omega (arith, vs.ok)) c.if-is_empty.ensures) (search rules)

pub returns-in-Refused-clause-meaning : goal.returns-in-Refused-clause-meaning
returns-in-Refused-clause-meaning c =
    let s = c.args.state.now in
    let vs = c.args.values in
    let taken = c.remove-target in
    let given = first-removed vs.items taken.new.self.items taken.result vs.len (omega (arith, vs.ok)) c.if-is_empty.ensures taken.ensures.value taken.ensures.items in
    let told = altered-told _ c.args.by (Err (failure_of c.in-Refused.fault)) s.transaction c.is_some.result (view taken.result) c.in_ok-fault-2.ensures c.is_some.ensures
    (ap altered_view c.in-Refused.is) in
    alter_call-refused (value_at c.args.room) c.args.by (named_view c.args.function) (view taken.result) (views taken.new.self.items) vs.items _ s given told

pub returns-in_ok-push_front-in-Ref-clause-meaning : goal.returns-in_ok-push_front-in-Ref-clause-meaning
returns-in_ok-push_front-in-Ref-clause-meaning c =
    let s = c.args.state.now in
    let vs = c.args.values in
    let taken = c.remove-target in
    let pushed = c.in_ok-push_front-in-Ref.ensures.items in
    let given = first-removed vs.items taken.new.self.items taken.result vs.len (omega (arith, vs.ok)) c.if-is_empty.ensures taken.ensures.value taken.ensures.items in
    let told = altered-told _ c.args.by (Ok (name_view c.in-Ref.name)) s.transaction c.is_some.result (view taken.result) c.in_ok-fault-2.ensures c.is_some.ensures
    (ap altered_view c.in-Ref.is) in
    if_ok-turned _ _ (alter_call-reads s (record s { frames = c.push_front.new.self }) c.args.by (named_view c.args.function) (name_view c.in-Ref.name) c.args.room (view taken.result)
    (views taken.new.self.items) vs.items (rw pushed refl, rw pushed refl, refl, refl, refl, refl, refl) given told) c.read.ensures.meaning
