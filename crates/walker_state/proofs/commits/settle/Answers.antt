use Rattle.std.proofs.Common.{refl, ap, arith, ◌*◌, None}
use Rattle.value_data.specs.Inside.View.{view}
use Rattle.walker_state.specs.Size.{frames_size}
use Rattle.walker_state.specs.Position.{no_attempt}
use Rattle.walker_state.specs.declared.frames.Transaction.{Transaction}
use Rattle.walker_state.proofs.Laters.{later_over, conflict-later}
use Rattle.walker_state.proofs.Stepping.{committed-at}
use Rattle.walker_state.proofs.commits.settle.Goals as goal

pub returns-in-Committed-clause-meaning : goal.returns-in-Committed-clause-meaning
returns-in-Committed-clause-meaning c =
    let s = c.args.state.now in
    rw c.in-Committed.is
    (committed-at s (record s { frames = c.into_inner-frames.result.frames; transaction = None }) c.args.transaction.value (view c.args.value)
    (refl, refl, refl, refl, refl) (ap (λ (t : Transaction). t.frames) c.into_inner-frames.ensures, refl))

pub returns-in-Committed-clause-later : goal.returns-in-Committed-clause-later
returns-in-Committed-clause-later c =
    let t = c.args.transaction.value in
    later_over no_attempt t (2 * t.left) c.args.state.now.calls _ _ _ refl (omega arith)
    (omega (arith, ap (λ (t : Transaction). frames_size t.frames.items) c.into_inner-frames.ensures))

pub returns-in-Conflict-clause-later : goal.returns-in-Conflict-clause-later
returns-in-Conflict-clause-later c = conflict-later c.begin_again.result _ c.args.state.now c.args.transaction c.args.value c.begin_again.ensures.retried

pub returns-in-Faulted-clause-later : goal.returns-in-Faulted-clause-later
returns-in-Faulted-clause-later c =
    let t = c.args.transaction.value in
    later_over no_attempt t (2 * t.left) c.args.state.now.calls _ _ _ refl (omega arith) (omega (arith, ap frames_size c.new.ensures.items))
