use Rattle.std.proofs.Common.{arith, refl}
use Rattle.walker_state.proofs.Laters.{later_smaller}
use Rattle.walker_state.proofs.sends.settle_send.Goals as goal

pub returns-in-Denied-clause-later : goal.returns-in-Denied-clause-later
returns-in-Denied-clause-later c = later_smaller _ _ _ _ _ _ refl (omega arith) (omega arith)

pub returns-in_ok-note_sent-in-Granted-clause-later :
    goal.returns-in_ok-note_sent-in-Granted-clause-later
returns-in_ok-note_sent-in-Granted-clause-later c =
    let e = c.in_ok-note_sent-in-Granted.ensures in
    later_smaller _ _ _ _ _ _ e.around (omega (arith, e.calls)) (rw e.frames (omega arith))
