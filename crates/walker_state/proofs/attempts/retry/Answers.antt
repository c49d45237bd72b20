use Rattle.std.proofs.Common.{sym, ap, arith, ◌∙◌}
use Rattle.evaluation_rules.specs.Doing.{Kept}
use Rattle.walker_state.specs.Position.{around}
use Rattle.walker_state.proofs.Laters.{later_smaller, retried-later}
use Rattle.walker_state.proofs.Stepping.{if_ok-turned, retried-from, retried-outside}
use Rattle.walker_state.proofs.attempts.retry.Goals as goal

pub returns-in-Some-clause-meaning : goal.returns-in-Some-clause-meaning
returns-in-Some-clause-meaning c =
    let e = c.unwind.ensures in
    if_ok-turned _ _
    (retried-from c.args.state.now c.unwind.new.state c.in-Some.transaction (sym c.in-Some.ensures.value) (e.place, e.text, e.setting, e.calls)
    (ap (λ (k : Kept). k.namespace) e.kept))
    c.begin_again.ensures.meaning

pub returns-in-Some-clause-later : goal.returns-in-Some-clause-later
returns-in-Some-clause-later c =
    retried-later c.begin_again.result _ c.args.state.now c.in-Some.transaction _ (sym c.in-Some.ensures.value) c.unwind.ensures.calls
    c.begin_again.ensures.retried

pub returns-in_ok-broken_rule-in-None-clause-meaning : goal.returns-in_ok-broken_rule-in-None-clause-meaning
returns-in_ok-broken_rule-in-None-clause-meaning c =
    rw c.in_ok-broken_rule-in-None.ensures (retried-outside c.args.state.now (sym c.in-None.ensures.value))

pub returns-in_ok-broken_rule-in-None-clause-later : goal.returns-in_ok-broken_rule-in-None-clause-later
returns-in_ok-broken_rule-in-None-clause-later c =
    λ name. later_smaller _ _ _ _ _ _ (ap around (c.take.ensures.after ∙ c.in-None.ensures.value)) (omega arith) (omega arith)
