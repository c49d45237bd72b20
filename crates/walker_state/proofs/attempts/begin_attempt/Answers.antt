use Rattle.std.proofs.Common.{refl, ap, ◌∙◌, ◌*◌, Some}
use Rattle.std.specs.Arc.{arc_str_bytes}
use Rattle.value_data.proofs.Views.{view-Nil}
use Rattle.special_forms.specs.Inside.Seen.{forms_view}
use Rattle.walker_state.specs.Position.{attempt_around}
use Rattle.walker_state.specs.declared.frames.Transaction.{Transaction}
use Rattle.walker_state.proofs.Laters.{begun-later}
use Rattle.walker_state.proofs.Stepping.{if_ok-turned, begun-at}
use Rattle.walker_state.proofs.attempts.begin_attempt.Goals as goal

pub returns-clause-meaning : goal.returns-clause-meaning
returns-clause-meaning c =
    let s = c.args.state.now in
    let b = record c.args.transaction { value = record c.deref_mut.result.now { attempt = c.new.result } } in
    let u = record s { frames = c.new-2.result; calls = c.deref-3.result.now.calls; namespace = c.in_ok-state.field-0; transaction = Some b } in
    if_ok-turned _ _
    (begun-at s u b c.args.transaction.value c.new.result c.in_ok-body.body _ _ (refl, refl, refl) (
      c.new-2.ensures.items,
      ap (λ (t : Transaction). t.calls) c.deref-3.ensures,
      c.in_ok-state.ensures ∙ ap (λ (t : Transaction). arc_str_bytes t.namespace) c.deref-4.ensures,
      refl,
    )
    (ap (λ (t : Transaction). record t { attempt = c.new.result }) c.deref_mut.ensures.value, c.new.ensures)
    (c.in_ok-body.ensures ∙ ap (λ (t : Transaction). forms_view t.body) c.deref.ensures, ap (λ (t : Transaction). t.room) c.deref-2.ensures, view-Nil))
    c.next_in_body.ensures.meaning

pub returns-clause-later : goal.returns-clause-later
returns-clause-later c =
    let s = c.args.state.now in
    let b = record c.args.transaction { value = record c.deref_mut.result.now { attempt = c.new.result } } in
    let u = record s { frames = c.new-2.result; calls = c.deref-3.result.now.calls; namespace = c.in_ok-state.field-0; transaction = Some b } in
    begun-later c.next_in_body.result _ _ u s c.args.transaction b (ap (λ (t : Transaction). t.calls) c.deref-3.ensures) refl
    (ap (λ (t : Transaction). attempt_around (2 * t.left) t) c.deref_mut.ensures.value)
    c.next_in_body.ensures.on
