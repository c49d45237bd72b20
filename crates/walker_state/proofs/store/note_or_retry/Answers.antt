use Rattle.std.proofs.Common.{arith}
use Rattle.walker_state.proofs.Laters.{later_smaller, if_ok-for}
use Rattle.walker_state.proofs.store.note_or_retry.Goals as goal

pub returns-in_ok-note_read-in-Found-clause-later : goal.returns-in_ok-note_read-in-Found-clause-later
returns-in_ok-note_read-in-Found-clause-later c =
    let e = c.in_ok-note_read-in-Found.ensures in
    later_smaller _ _ _ _ _ _ e.around (omega (arith, e.calls)) (rw e.frames (omega arith))

pub returns-in-Retry-clause-later : goal.returns-in-Retry-clause-later
returns-in-Retry-clause-later c = if_ok-for _ c.args.name _ c.retry.ensures.later
