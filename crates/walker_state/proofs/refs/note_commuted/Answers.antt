use Rattle.std.proofs.Common.{sym, ap, ◌∙◌}
use Rattle.value_data.specs.Datum.{Datum}
use Rattle.value_data.specs.Inside.View.{view}
use Rattle.repl_asks.specs.Inside.View.{commute_view, name_view}
use Rattle.repl_asks.specs.Accesses.{noted, commuted}
use Rattle.tx_attempt.specs.Inside.Seen.{attempt_view}
use Rattle.walker_state.specs.declared.frames.Transaction.{Transaction}
use Rattle.walker_state.proofs.Noting.{noted-outside, noted-inside}
use Rattle.walker_state.proofs.refs.note_commuted.Goals as goal

pub returns-in-None-clause-noted : goal.returns-in-None-clause-noted
returns-in-None-clause-noted c =
    λ d. rw c.take.ensures.after (noted-outside c.args.state.now _ d (sym c.in-None.ensures.value))

pub returns-in_ok-commute-in-Some-clause-noted : goal.returns-in_ok-commute-in-Some-clause-noted
returns-in_ok-commute-in-Some-clause-noted c =
    let t = c.in-Some.transaction in
    let a = c.commute.new.self in
    let b = record t { value = record c.deref_mut.result.now { attempt = a } } in
    let now = c.deref_mut.ensures.value in
    λ d. noted-inside c.args.state.now t b a (commuted (name_view c.args.name) (commute_view c.args.commute) (view c.args.value.now)) d (sym c.in-Some.ensures.value)
    (ap (λ (x : Transaction). record x { attempt = a }) now)
    (c.in_ok-commute-in-Some.ensures.noted
    ∙ ap (λ (x : Transaction). noted (commuted (name_view c.args.name) (commute_view c.args.commute) (view c.in_ok-copy-in-Some.field-0)) (attempt_view x.attempt)) now
    ∙ ap (λ (v : Datum). noted (commuted (name_view c.args.name) (commute_view c.args.commute) v) (attempt_view t.value.attempt)) c.in_ok-copy-in-Some.ensures)
