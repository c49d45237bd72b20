use Rattle.std.proofs.Common.{rules, ◌≡◌, true, sym, ap, ◌∙◌}
use Rattle.value_data.specs.Datum.{Datum}
use Rattle.value_data.specs.Inside.View.{view}
use Rattle.repl_asks.specs.Inside.View.{name_view}
use Rattle.repl_asks.specs.Accesses.{noted, put, is_commuted}
use Rattle.tx_attempt.specs.Inside.Parts.{is_refused}
use Rattle.tx_attempt.specs.Inside.Seen.{attempt_view}
use Rattle.walker_state.specs.declared.frames.Transaction.{Transaction}
use Rattle.walker_state.proofs.Noting.{put-outside, put-inside, put-refused}
use Rattle.walker_state.proofs.store.put.Goals as goal

pub returns-in-None-clause-meaning : goal.returns-in-None-clause-meaning
returns-in-None-clause-meaning c =
    rw c.take.ensures.after (put-outside c.args.state.now (name_view c.args.name) (view c.args.value) (sym c.in-None.ensures.value))

pub returns-in-Ok-clause-meaning : goal.returns-in-Ok-clause-meaning
returns-in-Ok-clause-meaning c =
    let t = c.in-Some.transaction in
    let a = c.set-outcome.new.self in
    let b = record t { value = record c.deref_mut.result.now { attempt = a } } in
    let now = c.deref_mut.ensures.value in
    let name = name_view c.args.name in
    put-inside c.args.state.now t b a name (view c.args.value) (sym c.in-Some.ensures.value)
    (ap (λ (x : Transaction). record x { attempt = a }) now)
    (c.in-Ok.ensures.set
    ∙ ap (λ (x : Transaction). noted (put name (view c.in_ok-copy-in-Some.field-0)) (attempt_view x.attempt)) now
    ∙ ap (λ (v : Datum). noted (put name v) (attempt_view t.value.attempt)) c.in_ok-copy-in-Some.ensures)
    (sym (ap (λ (x : Transaction). is_commuted name (attempt_view x.attempt)) now) ∙ sym c.in-Ok.ensures.commuted)

pub returns-in-Err-Commuted-clause-meaning : goal.returns-in-Err-Commuted-clause-meaning
returns-in-Err-Commuted-clause-meaning c =
    let t = c.in-Some.transaction in
    let a = c.set-outcome.new.self in
    let b = record t { value = record c.deref_mut.result.now { attempt = a } } in
    let now = c.deref_mut.ensures.value in
    let name = name_view c.args.name in
    let refused : is_refused c.set-outcome.result ≡ true = search rules in
    put-refused c.args.state.now t b name (view c.args.value) _ (sym c.in-Some.ensures.value)
    (sym (ap (λ (x : Transaction). is_commuted name (attempt_view x.attempt)) now)
    ∙ sym c.set-outcome.ensures.commuted ∙ refused)
    c.in_ok-broken_rule-in-Err-Commuted.ensures
