use Rattle.std.proofs.Common.{rules, sym, ap, subst, ◌∙◌, option_map, Err, IfOk, IfErr}
use Rattle.repl_asks.specs.Inside.View.{ask_view}
use Rattle.server_rules.specs.Plan.{Plan, Outcome, StepAnswer, refuses}
use Rattle.server_rules.specs.Starting.{interrupted_in}
use Rattle.ref_table.specs.Store.{Store}
use Rattle.ref_table.specs.Refs.{refs_after}
use Rattle.tenant_parts.specs.View.{actor_view, hand_view, run_view}
use Rattle.server_rules.specs.DeedResult.{carried_out}
use Rattle.tenant_asks.specs.Answers.{ask_answer_view}
use Rattle.tenant_asks.specs.Acting.{AcceptsOutcome, RefusesOutcome, is_accepted}
use Rattle.tenant_parts.specs.Serving.{ServesWithAttempts}
use Rattle.tenant_asks.proofs.Remembering.{acted-interrupted, wanted-memory}
use Rattle.tenant_asks.proofs.Answering.{allowed-so, asked-open, asked-closed, given-told, given-declined}
use Rattle.tenant_asks.proofs.Answering.{asked-waiting, waits-so}
use Rattle.server_rules.specs.Asking.{session_number}
use Rattle.tenant_asks.proofs.asking.ask.Goals as goal

pub returns-in_err-give_up-clause-served : goal.returns-in_err-give_up-clause-served
returns-in_err-give_up-clause-served c = record {
  acted = search rules;
  declined = λ g q s r remembers holds.
      let a = c.args.actor in
      let actor = actor_view c.args.state.now in
      let ask = ask_view c.args.ask.now in
      let k = hand_view c.in-Some.hand in
      let run = run_view c.in-Some-running._run in
      let allowed = allowed-so ask remembers.cells c.is_allowed.ensures c.if-not-is_allowed.false in
      let may = sym c.may_ask.ensures ∙ c.if-not-may_ask.false in
      let plan = asked-closed g a actor ask q k run (ap (option_map hand_view) c.in-Some.is)
      (ap (option_map run_view) c.in-Some-running.is) may allowed c.if-state.true in
      let stay = c.in_err-give_up.ensures.stays g q s r remembers holds in
      given-declined g s.tenant s a k ask q _ c.give_up.new.memory c.in_err-give_up.field-0.0 _
      c.from_residual.result plan c.from_residual.ensures.1 stay.0 stay.1 stay.2;
  no_memory = λ g q s r remembers holds none.
      let a = c.args.actor in
      let actor = actor_view c.args.state.now in
      let ask = ask_view c.args.ask.now in
      let k = hand_view c.in-Some.hand in
      let allowed = allowed-so ask remembers.cells c.is_allowed.ensures c.if-not-is_allowed.false in
      let may = sym c.may_ask.ensures ∙ c.if-not-may_ask.false in
      let plan = asked-closed g a actor ask q k (run_view c.in-Some-running._run)
      (ap (option_map hand_view) c.in-Some.is) (ap (option_map run_view) c.in-Some-running.is)
      may allowed c.if-state.true in
      let why = wanted-memory c.in_err-give_up.field-0.0 c.from_residual.result
      c.from_residual.ensures.1 none in
      sym (ap (λ p. is_accepted (carried_out s p).outcome) plan)
      ∙ ap is_accepted (given-told s a k ask q
      (c.in_err-give_up.ensures.no_memory s r holds (ap (λ e. Err e) why))).0;
  step = search rules;
}

pub returns-then-state-clause-served : goal.returns-then-state-clause-served
returns-then-state-clause-served c = record {
  acted = λ g q s r remembers holds.
      let a = c.args.actor in
      let actor = actor_view c.args.state.now in
      let ask = ask_view c.args.ask.now in
      let k = hand_view c.in-Some.hand in
      let run = run_view c.in-Some-running._run in
      let memory = c.give_up.new.memory in
      let refs = c.args.refs.now in
      let attempts = c.give_up.new.attempts in
      let allowed = allowed-so ask remembers.cells c.is_allowed.ensures c.if-not-is_allowed.false in
      let may = sym c.may_ask.ensures ∙ c.if-not-may_ask.false in
      let plan = asked-closed g a actor ask q k run (ap (option_map hand_view) c.in-Some.is)
      (ap (option_map run_view) c.in-Some-running.is) may allowed c.if-state.true in
      let gone = c.in_ok-give_up.ensures.gone g q s r remembers holds in
      let both = given-told s a k ask q gone.0 in
      let P : Plan → Type 0 = λ p.
      AcceptsOutcome g s.tenant a q (carried_out s p).outcome memory actor
      (ask_answer_view c.interrupted.result.given)
      × ServesWithAttempts refs attempts (carried_out s p).store (refs_after (carried_out s p).store r) in
      let answer = ask_answer_view c.interrupted.result.given in
      let Q : Outcome → Type 0 = λ x. AcceptsOutcome g s.tenant a q x memory actor answer in
      let T : StepAnswer → Type 0 = λ x. AcceptsOutcome g s.tenant a q (interrupted_in a k q) memory actor x in
      let R : Store → Type 0 = λ x. ServesWithAttempts refs attempts x (refs_after x r) in
      subst P plan (
        subst Q (sym both.0) (subst T (sym (ap ask_answer_view c.interrupted.ensures.given))
            (acted-interrupted g s.tenant memory a actor k q gone.1)),
        subst R (sym both.1) gone.2,
      );
  declined = search rules;
  no_memory = search rules;
  step = search rules;
}

pub returns-clause-served : goal.returns-clause-served
returns-clause-served c = record {
  acted = λ g q s r remembers holds.
      let a = c.args.actor in
      let actor = actor_view c.args.state.now in
      let ask = ask_view c.args.ask.now in
      let k = hand_view c.in-Some.hand in
      let run = run_view c.in-Some-running._run in
      let allowed = allowed-so ask remembers.cells c.is_allowed.ensures c.if-not-is_allowed.false in
      let may = sym c.may_ask.ensures ∙ c.if-not-may_ask.false in
      let met = waits-so (session_number a) ask remembers.cells c.must_wait.ensures c.if-must_wait.false in
      let hand = ap (option_map hand_view) c.in-Some.is in
      let running = ap (option_map run_view) c.in-Some-running.is in
      let P : Plan → Type 0 = λ p. IfOk c.answer.result (λ x.
      AcceptsOutcome g s.tenant a q (carried_out s p).outcome c.answer.new.memory
      (actor_view c.answer.new.state) (ask_answer_view x.given)
      × ServesWithAttempts c.answer.new.refs c.answer.new.attempts (carried_out s p).store
      (refs_after (carried_out s p).store r)) in
      subst P (asked-open g a actor ask q k run hand running may allowed c.if-state.false met)
      (c.answer.ensures.acted g q s r k run remembers holds allowed hand running);
  declined = λ g q s r remembers holds.
      let a = c.args.actor in
      let actor = actor_view c.args.state.now in
      let ask = ask_view c.args.ask.now in
      let k = hand_view c.in-Some.hand in
      let run = run_view c.in-Some-running._run in
      let allowed = allowed-so ask remembers.cells c.is_allowed.ensures c.if-not-is_allowed.false in
      let may = sym c.may_ask.ensures ∙ c.if-not-may_ask.false in
      let met = waits-so (session_number a) ask remembers.cells c.must_wait.ensures c.if-must_wait.false in
      let P : Plan → Type 0 = λ p. IfErr c.answer.result (λ why.
      RefusesOutcome g s.tenant q (carried_out s p).outcome c.answer.new.memory why
      × ServesWithAttempts c.answer.new.refs c.answer.new.attempts s r) in
      subst P (asked-open g a actor ask q k run (ap (option_map hand_view) c.in-Some.is)
      (ap (option_map run_view) c.in-Some-running.is) may allowed c.if-state.false met)
      (c.answer.ensures.declined g q s r k run remembers holds allowed);
  no_memory = λ g q s r remembers holds none.
      let a = c.args.actor in
      let actor = actor_view c.args.state.now in
      let ask = ask_view c.args.ask.now in
      let k = hand_view c.in-Some.hand in
      let run = run_view c.in-Some-running._run in
      let allowed = allowed-so ask remembers.cells c.is_allowed.ensures c.if-not-is_allowed.false in
      let may = sym c.may_ask.ensures ∙ c.if-not-may_ask.false in
      let met = waits-so (session_number a) ask remembers.cells c.must_wait.ensures c.if-must_wait.false in
      let plan = asked-open g a actor ask q k run (ap (option_map hand_view) c.in-Some.is)
      (ap (option_map run_view) c.in-Some-running.is) may allowed c.if-state.false met in
      sym (ap (λ p. is_accepted (carried_out s p).outcome) plan)
      ∙ c.answer.ensures.no_memory g q s r k run remembers holds none;
  step = search rules;
}

pub returns-then-must_wait-clause-served : goal.returns-then-must_wait-clause-served
returns-then-must_wait-clause-served c = record {
  acted = search rules;
  declined = λ g q s r remembers holds.
      let a = c.args.actor in
      let actor = actor_view c.args.state.now in
      let ask = ask_view c.args.ask.now in
      let k = hand_view c.in-Some.hand in
      let run = run_view c.in-Some-running._run in
      let allowed = allowed-so ask remembers.cells c.is_allowed.ensures c.if-not-is_allowed.false in
      let may = sym c.may_ask.ensures ∙ c.if-not-may_ask.false in
      let waits = waits-so (session_number a) ask remembers.cells c.must_wait.ensures c.if-must_wait.true in (
        record {
          refused = λ ne. asked-waiting g s a actor ask q k run (ap (option_map hand_view) c.in-Some.is)
              (ap (option_map run_view) c.in-Some-running.is) may allowed c.if-state.false waits
              ∙ ap refuses (sym (c.why_waiting.ensures.why s r holds));
          remembers = remembers;
        },
        holds,
      );
  no_memory = search rules;
  step = search rules;
}
