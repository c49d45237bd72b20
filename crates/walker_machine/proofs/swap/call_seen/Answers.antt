use Rattle.std.proofs.Common.{◌≡◌, ◌∙◌, ◌∷◌, ap, arith, refl, rules}
use Rattle.value_data.specs.Inside.View.{view, views}
use Rattle.value_data.proofs.Views.{value_views}
use Rattle.repl_asks.specs.Exchange.{NamedFunctionData}
use Rattle.evaluation_rules.specs.Applying.{function_called}
use Rattle.evaluation_rules.specs.Evaluation.{value_at}
use Rattle.walker_state.specs.Pending.{from_state}
use Rattle.walker_state.specs.declared.frames.State.{State}
use Rattle.walker_state.proofs.Laters.{later_smaller}
use Rattle.walker_machine.proofs.Evaluating.{if_ok-turned}
use Rattle.walker_machine.proofs.Altering.{swap_step-calls, swap_step-none}
use Rattle.walker_machine.proofs.Going.{seen-later}
use Rattle.walker_machine.proofs.swap.call_seen.Goals as goal

pub returns-then-state-eq0-clause-later : goal.returns-then-state-eq0-clause-later
returns-then-state-eq0-clause-later c = later_smaller _ _ _ _ _ _ refl (omega arith) (omega arith)

pub returns-then-state-eq0-clause-meaning : goal.returns-then-state-eq0-clause-meaning
returns-then-state-eq0-clause-meaning c =
    swap_step-none c.args.state.now c.args.swap (view c.args.seen) _ (search rules) (search rules)

pub returns-clause-later : goal.returns-clause-later
returns-clause-later c =
    let s = c.args.state.now in
    let called = c.in_ok-control.ensures in
    seen-later _ c.in_ok-control.control s (record s { frames = c.push_front.new.self }) c.call_named.new.state _
    refl refl called.on (called.entered (omega (arith, c.if-state-eq0.false))) c.enter_body.ensures.calls c.enter_body.ensures.around

pub returns-clause-meaning : goal.returns-clause-meaning
returns-clause-meaning c =
    let s = c.args.state.now in
    let w = c.args.swap in
    let u : State = record s { frames = c.push_front.new.self } in
    let pushed = c.in_ok-push_front.ensures.items in
    let vs = c.insert.new.self.items in
    let given : views vs ≡ view c.args.seen ∷ views w.arguments.items = search (rules, value_views) in
    let same = ap (λ (f : NamedFunctionData). from_state (function_called (value_at w.room) f (views vs)) u) c.in_ok-function.ensures in
    if_ok-turned _ _ (c.in_ok-control.ensures.meaning ∙ same
    ∙ swap_step-calls s u w (view c.args.seen) vs (rw (pushed, c.in_ok-swap.ensures.ok) refl, rw pushed refl, refl, refl, refl, refl, refl) given)
    c.enter_body.ensures.meaning
