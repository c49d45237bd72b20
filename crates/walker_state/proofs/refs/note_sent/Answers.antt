use Rattle.std.proofs.Common.{sym, ap, ◌∙◌}
use Rattle.repl_asks.specs.Inside.View.{sending_view}
use Rattle.repl_asks.specs.Accesses.{noted, sent}
use Rattle.tx_attempt.specs.Inside.Seen.{attempt_view}
use Rattle.walker_state.specs.declared.frames.Transaction.{Transaction}
use Rattle.walker_state.proofs.Noting.{noted-outside, noted-inside}
use Rattle.walker_state.proofs.refs.note_sent.Goals as goal

pub returns-in-None-clause-noted : goal.returns-in-None-clause-noted
returns-in-None-clause-noted c =
    λ d. rw c.take.ensures.after (noted-outside c.args.state.now _ d (sym c.in-None.ensures.value))

pub returns-in_ok-hold_send-in-Some-clause-noted : goal.returns-in_ok-hold_send-in-Some-clause-noted
returns-in_ok-hold_send-in-Some-clause-noted c =
    let t = c.in-Some.transaction in
    let a = c.hold_send.new.self in
    let b = record t { value = record c.deref_mut.result.now { attempt = a } } in
    let now = c.deref_mut.ensures.value in
    λ d. noted-inside c.args.state.now t b a (sent (sending_view c.args.sending)) d (sym c.in-Some.ensures.value)
    (ap (λ (x : Transaction). record x { attempt = a }) now)
    (c.in_ok-hold_send-in-Some.ensures.noted
    ∙ ap (λ (x : Transaction). noted (sent (sending_view c.args.sending)) (attempt_view x.attempt)) now)
