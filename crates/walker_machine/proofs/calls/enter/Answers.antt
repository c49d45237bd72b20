use Rattle.std.proofs.Common.{refl}
use Rattle.value_data.proofs.Views.{view-Nil}
use Rattle.walker_machine.proofs.Evaluating.{if_ok-turned}
use Rattle.walker_machine.proofs.calls.enter.Goals as goal

pub returns-clause-meaning : goal.returns-clause-meaning
returns-clause-meaning c =
    if_ok-turned _ _ (rw (
      view-Nil,
      c.in_ok-push_front.ensures.items,
      c.replace-place.ensures.value,
      c.replace-place.ensures.after,
      c.in_ok-locals.ensures,
      c.in_ok-body.ensures,
      c.in_ok-copy_text.ensures,
      c.deref-4.ensures,
      c.deref-3.ensures,
      c.deref-2.ensures.value,
      c.deref.ensures,
    ) refl)
    c.next_in_body.ensures.meaning
