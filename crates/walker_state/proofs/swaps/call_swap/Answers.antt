use Rattle.std.proofs.Common.{arith, ap, rules, refl, Ok, Err}
use Rattle.value_data.specs.Inside.View.{view, views}
use Rattle.repl_values.specs.Inside.FaultView.{failure_of}
use Rattle.repl_asks.specs.Inside.View.{named_view}
use Rattle.evaluation_rules.specs.Inside.View.{swapped_view}
use Rattle.evaluation_rules.specs.Evaluation.{value_at}
use Rattle.walker_state.proofs.Taking.{no_items, first-removed}
use Rattle.walker_state.proofs.Swapping.{swap_call-empty, swap_call-refused, swap_call-asks}
use Rattle.walker_state.proofs.Swapping.{swapped-told}
use Rattle.walker_state.proofs.swaps.call_swap.Goals as goal

pub returns-then-is_empty-clause-meaning : goal.returns-then-is_empty-clause-meaning
returns-then-is_empty-clause-meaning c =
    let vs = c.args.values in
    swap_call-empty (value_at c.args.room) (named_view c.args.function) vs.items _ c.args.state.now
    (no_items vs.items vs.len (omega (arith, vs.ok)) c.if-is_empty.ensures) (search rules)

pub returns-in-Refused-clause-meaning : goal.returns-in-Refused-clause-meaning
returns-in-Refused-clause-meaning c =
    let vs = c.args.values in
    let taken = c.remove-target in
    let given = first-removed vs.items taken.new.self.items taken.result vs.len (omega (arith, vs.ok)) c.if-is_empty.ensures taken.ensures.value taken.ensures.items in
    let told = swapped-told _ (Err (failure_of c.in-Refused.fault)) (view taken.result) c.in_ok-fault-2.ensures (ap swapped_view c.in-Refused.is) in
    swap_call-refused (value_at c.args.room) (named_view c.args.function) (view taken.result) (views taken.new.self.items) vs.items _ c.args.state.now given told

pub returns-in_ok-new-in-Atom-clause-meaning : goal.returns-in_ok-new-in-Atom-clause-meaning
returns-in_ok-new-in-Atom-clause-meaning c =
    let vs = c.args.values in
    let taken = c.remove-target in
    let given = first-removed vs.items taken.new.self.items taken.result vs.len (omega (arith, vs.ok)) c.if-is_empty.ensures taken.ensures.value taken.ensures.items in
    let told = swapped-told _ (Ok c.in-Atom.atom) (view taken.result) c.in_ok-fault-2.ensures (ap swapped_view c.in-Atom.is) in
    rw c.in_ok-new-in-Atom.ensures.ok (swap_call-asks _ (view taken.result) vs.items c.args.state.now given told refl)
