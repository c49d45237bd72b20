use Rattle.std.proofs.Common.{List, map, ap, ◌∙◌}
use Rattle.std.proofs.lemmas.List.{map_push}
use Rattle.repl_asks.specs.Sends.{SendingData}
use Rattle.repl_asks.specs.Inside.View.{sending_view}
use Rattle.tx_attempt.specs.contracts.key.KeyOrd.TheImpl as order
use Rattle.repl_asks.specs.Accesses.{noted}
use Rattle.tx_attempt.specs.Inside.States.{states_of}
use Rattle.tx_attempt.specs.Inside.Seen.{attempt_view}
use Rattle.tx_attempt.proofs.Stated.{data_of}
use Rattle.tx_attempt.proofs.Noting.{on-err}
use Rattle.tx_attempt.proofs.attempt.Attempt.hold_send.Goals as goal

pub returns-in_err-push-clause-stays : goal.returns-in_err-push-clause-stays
unfolding attempt_view
returns-in_err-push-clause-stays c =
    let a = c.args.self.now in
    on-err c.from_residual.result
    (ap (λ xs. data_of (map sending_view xs) (states_of (order.ghosts).cmp a.states) a.sets.items
    a.ensured.items a.commuted.items)
    c.in_err-push.ensures.items)

pub returns-clause-noted : goal.returns-clause-noted
unfolding attempt_view noted
returns-clause-noted c =
    let a = c.args.self.now in
    ap (λ (more : List SendingData). data_of more (states_of (order.ghosts).cmp a.states) a.sets.items
    a.ensured.items a.commuted.items)
    (ap (map sending_view) c.in_ok-push.ensures.items
    ∙ map_push sending_view a.sends.items c.args.sending)
