use Rattle.std.proofs.Common.{arith, refl}
use Rattle.walker_state.proofs.Laters.{later_smaller, if_ok-for}
use Rattle.walker_state.specs.Position.{LeadsOnWithin}
use Rattle.walker_machine.proofs.Going.{leads-later}
use Rattle.walker_machine.proofs.answers.use_answer.Goals as goal

pub returns-in-Resolution-clause-later : goal.returns-in-Resolution-clause-later
returns-in-Resolution-clause-later c =
    let e = c.use_resolution.ensures in
    rw c.in-Resolution.is (leads-later _ _ _ _ _ refl (omega arith) (omega arith) e.on)

pub returns-in-Completion-clause-later : goal.returns-in-Completion-clause-later
returns-in-Completion-clause-later c = rw c.in-Completion.is (later_smaller _ _ _ _ _ _ refl (omega arith) (omega arith))

pub returns-in-Namespace-clause-later : goal.returns-in-Namespace-clause-later
returns-in-Namespace-clause-later c =
    let e = c.go_on_in.ensures in
    rw c.in-Namespace.is (later_smaller _ _ _ _ _ _ e.around (omega (arith, e.calls)) (rw e.frames (omega (arith, e.size))))

pub returns-in-Value-clause-later : goal.returns-in-Value-clause-later
returns-in-Value-clause-later c = rw c.in-Value.is (later_smaller _ _ _ _ _ _ refl (omega arith) (omega arith))

pub returns-in-Tried-clause-later : goal.returns-in-Tried-clause-later
returns-in-Tried-clause-later c =
    let s = c.args.state.now in
    rw c.in-Tried.is (leads-later _ 3 s s _ refl (omega arith) (omega arith) (if_ok-for (λ k u. LeadsOnWithin 3 u u k) s _ c.settle_swap.ensures.on))

pub returns-in-Permission-clause-later : goal.returns-in-Permission-clause-later
returns-in-Permission-clause-later c =
    let e = c.permit.ensures.on c.args.state.now in
    rw c.in-Permission.is (later_smaller _ _ _ _ _ _ e.around (omega (arith, e.calls)) (omega (arith, e.size)))
