use Rattle.std.proofs.Common.{refl}
use Rattle.walker_machine.proofs.Evaluating.{binding-taken}
use Rattle.walker_machine.proofs.rows.next_binding.Goals as goal

pub returns-in_ok-push_front-in-Some-clause-meaning : goal.returns-in_ok-push_front-in-Some-clause-meaning
returns-in_ok-push_front-in-Some-clause-meaning c =
    let taken = binding-taken _ _ _ _ _ c.in_ok-take_binding.ensures c.in-Some.is in
    rw (c.in_ok-push_front-in-Some.ensures.items, taken) refl
