use Rattle.std.proofs.Common.{sym, ap, ◌∙◌}
use Rattle.value_data.specs.Inside.View.{view}
use Rattle.repl_asks.specs.Inside.View.{intent_view}
use Rattle.repl_asks.specs.Accesses.{intent_of}
use Rattle.tx_attempt.specs.Inside.Seen.{attempt_view}
use Rattle.tx_attempt.specs.declared.attempt.Attempt.{Attempt}
use Rattle.walker_state.specs.declared.frames.Transaction.{Transaction}
use Rattle.walker_state.proofs.Stepping.{left-outside, left-inside}
use Rattle.walker_state.proofs.commits.leave.Goals as goal

pub returns-in-None-clause-meaning : goal.returns-in-None-clause-meaning
returns-in-None-clause-meaning c = left-outside c.args.state.now (view c.args.value) c.requires (sym c.in-None.ensures.value)

pub returns-in_ok-intent-in-Some-clause-meaning : goal.returns-in_ok-intent-in-Some-clause-meaning
returns-in_ok-intent-in-Some-clause-meaning c =
    let now = c.deref_mut.ensures.value in
    left-inside c.args.state.now c.in-Some.transaction (record c.deref_mut.result.now { attempt = c.replace-attempt.new.dest })
    c.replace-attempt.new.dest (view c.args.value) _ c.requires (sym c.in-Some.ensures.value)
    (ap (λ (t : Transaction). record t { attempt = c.replace-attempt.new.dest }) now)
    (ap intent_view c.in_ok-intent-in-Some.ensures.ok ∙ c.in_ok-into_intent-in-Some.ensures.made
    ∙ ap (λ (a : Attempt). intent_of (attempt_view a)) c.replace-attempt.ensures.value
    ∙ ap (λ (t : Transaction). intent_of (attempt_view t.attempt)) now)
