use Rattle.std.proofs.Common.{refl, map}
use Rattle.value_data.specs.Inside.View.{view}
use Rattle.repl_asks.specs.Inside.View.{sending_view}
use Rattle.tx_attempt.specs.contracts.key.KeyOrd.TheImpl as order
use Rattle.tx_attempt.specs.Inside.States.{states_of}
use Rattle.tx_attempt.specs.Inside.Seen.{attempt_view}
use Rattle.tx_attempt.proofs.Stated.{same-data}
use Rattle.tx_attempt.proofs.Noting.{on-err, got-noted}
use Rattle.tx_attempt.proofs.attempt.Attempt.note_read.Goals as goal

pub returns-in_err-note-clause-stays : goal.returns-in_err-note-clause-stays
unfolding attempt_view
returns-in_err-note-clause-stays c =
    let a = c.args.self.now in
    on-err c.from_residual.result
    (same-data (map sending_view a.sends.items) (states_of (order.ghosts).cmp a.states) (states_of (order.ghosts).cmp c.note.new.self)
    a.sets.items a.sets.items a.ensured.items a.ensured.items a.commuted.items a.commuted.items
    c.in_err-note.ensures.stays refl refl refl)

pub returns-clause-noted : goal.returns-clause-noted
unfolding attempt_view
returns-clause-noted c =
    let a = c.args.self.now in
    got-noted (map sending_view a.sends.items) (states_of (order.ghosts).cmp a.states) (states_of (order.ghosts).cmp c.note.new.self)
    c.args.name (view c.args.value) a.sets.items a.ensured.items a.commuted.items
    (record { at = c.in_ok-note.ensures.noted })
