use Rattle.std.proofs.Common.{◌≡◌, false, refl, rules}
use Rattle.value_data.specs.Inside.View.{view}
use Rattle.special_forms.specs.Truth.{decides}
use Rattle.walker_machine.proofs.Evaluating.{form-taken}
use Rattle.walker_machine.proofs.rows.next_in_logic.Goals as goal

pub returns-in_ok-push_front-in-Some-2-clause-meaning : goal.returns-in_ok-push_front-in-Some-2-clause-meaning
returns-in_ok-push_front-in-Some-2-clause-meaning c =
    let taken = form-taken _ _ _ _ _ c.in_ok-take_first.ensures c.in-Some.is in
    let goes_on : decides c.args.logic (view c.args.last) ≡ false = search rules in
    rw (c.in_ok-push_front-in-Some-2.ensures.items, taken, goes_on) refl
