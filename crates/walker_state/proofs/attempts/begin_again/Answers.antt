use Rattle.std.proofs.Common.{refl, sym, ap, ◌∙◌, false}
use Rattle.walker_state.specs.declared.frames.Transaction.{Transaction}
use Rattle.walker_state.proofs.Stepping.{again-none, again-left}
use Rattle.walker_state.proofs.attempts.begin_again.Goals as goal

pub returns-then-deref-eq0-clause-meaning : goal.returns-then-deref-eq0-clause-meaning
returns-then-deref-eq0-clause-meaning c =
    rw c.in_ok-broken_rule.ensures
    (sym (again-none _ c.args.transaction.value _ _ _ (ap (λ (t : Transaction). t.left) (sym c.deref.ensures) ∙ c.if-deref-eq0.true)))

pub returns-clause-meaning : goal.returns-clause-meaning
returns-clause-meaning c =
    again-left _ c.args.transaction.value (record c.deref_mut-2.result.now { is_first = false }) _ _ _ (λ e. c.if-deref-eq0.false (ap (λ (t : Transaction). t.left) c.deref.ensures ∙ e))
    (rw (c.deref_mut-2.ensures.value, c.deref_mut.ensures.value) refl)
