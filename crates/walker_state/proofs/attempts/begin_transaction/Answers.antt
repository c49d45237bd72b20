use Rattle.std.proofs.Common.{refl, ap, ◌∙◌}
use Rattle.std.specs.Arc.{arc_str_bytes}
use Rattle.value_data.specs.Datum.{nil}
use Rattle.special_forms.specs.Inside.Seen.{forms_view}
use Rattle.evaluation_rules.specs.Rows.{value_of_last}
use Rattle.evaluation_rules.specs.Evaluation.{value_at}
use Rattle.walker_state.specs.Pending.{place_of}
use Rattle.walker_state.specs.declared.frames.Transaction.{Transaction}
use Rattle.walker_state.proofs.Stepping.{transaction-none, transaction-begun}
use Rattle.walker_state.proofs.attempts.begin_transaction.Goals as goal

pub returns-then-state-eq0-clause-meaning : goal.returns-then-state-eq0-clause-meaning
returns-then-state-eq0-clause-meaning c =
    let s = c.args.state.now in
    rw c.in_ok-broken_rule.ensures
    (transaction-none s (value_of_last (value_at c.args.room (place_of s)) nil (forms_view c.args.body)) c.requires c.if-state-eq0.true)

pub returns-clause-meaning : goal.returns-clause-meaning
returns-clause-meaning c =
    let s = c.args.state.now in
    let made = c.in_ok-new.ensures.ok in
    transaction-begun s (record s { frames = c.replace-frames.new.dest }) c.in_ok-new.field-0.value c.args.body c.args.room c.requires c.if-state-eq0.false
    (refl, refl, refl) (
      ap (λ (t : Transaction). t.body) made,
      ap (λ (t : Transaction). t.room) made,
      ap (λ (t : Transaction). t.calls) made,
      ap (λ (t : Transaction). arc_str_bytes t.namespace) made ∙ c.in_ok-namespace.ensures,
    )
    (ap (λ (t : Transaction). t.left) made, ap (λ (t : Transaction). t.frames) made ∙ c.replace-frames.ensures.value)
