use Rattle.std.proofs.Common.{Bool, ◌||◌, subst, rules}
use Rattle.server_rules.specs.LoneTurns.{lone_run}
use Rattle.nrepl_pipe.proofs.Growing.{on_err}
use Rattle.nrepl_pipe.proofs.Marking.{marks-behind}
use Rattle.nrepl_pipe.proofs.Rounding.{RoundsOn, rounds-first, rounds-more, rounds-worn}
use Rattle.nrepl_pipe.proofs.Rounding.{rounds-idle}
use Rattle.nrepl_pipe.proofs.Halting.{rounds-begun, rounds-broken}
use Rattle.nrepl_pipe.proofs.rounds.run_rounds.Goals as goal

pub returns-in_err-first-clause-err : goal.returns-in_err-first-clause-err
returns-in_err-first-clause-err g c = λ h q right stands.
    on_err c.from_residual.result
    (rounds-begun h q _ _ (c.in_err-first.ensures.err h q right stands))

pub loop-is_last-init : goal.loop-is_last-init
loop-is_last-init g c = record {
  steps = c.in_ok-first.ensures.steps;
  rounds = λ h q right stands.
      let made = c.in_ok-first.ensures.ok h q right stands in
      rounds-first h (g.C.Core.stands h c.run_round.new.core) q c.in_ok-first.first _ _
      made.0 made.1;
  passed = λ was. c.in_ok-first.ensures.passed was;
  writes = c.in_ok-first.ensures.told;
}

pub returns-in_err-round-clause-err : goal.returns-in_err-round-clause-err
returns-in_err-round-clause-err g c = λ h q right stands.
    let on = c.loop-is_last.invariant.rounds h q right stands in
    on_err c.from_residual-in_err-round.result
    (rounds-broken h _ q _ _ _ _ _ on c.loop-is_last-test.true
    (c.in_err-round.ensures.err h _ right on.makes.stands))

pub loop-is_last-preserved : goal.loop-is_last-preserved
loop-is_last-preserved g c = record {
  steps = search rules;
  rounds = λ h q right stands.
      let on = c.loop-is_last.invariant.rounds h q right stands in
      let now = lone_run h q on.turns in
      let made = c.in_ok-round.ensures.ok h now right on.makes.stands in
      let more = rounds-more h _ (g.C.Core.stands h c.run_round-in-loop-is_last.new.core) q _ _
      c.in_ok-round.round _ _ _ on c.loop-is_last-test.true made.0 made.1 in
      subst (λ (last : Bool). RoundsOn h (g.C.Core.stands h c.run_round-in-loop-is_last.new.core) q
      last (c.loop-is_last.is_worn || c.in_ok-round.round.is_worn)
      (g.W.Sink.contents c.args.writer.now)
      (g.W.Sink.contents c.run_round-in-loop-is_last.new.writer))
      (c.in_ok-round.ensures.goes_on h now right on.makes.stands on.empty) more;
  passed = λ was. c.in_ok-round.ensures.passed (c.loop-is_last.invariant.passed was);
  writes = marks-behind _ _ _ _ c.loop-is_last.invariant.writes c.in_ok-round.ensures.told;
}

pub returns-then-is_worn-clause-ok : goal.returns-then-is_worn-clause-ok
returns-then-is_worn-clause-ok g c = λ h q right stands.
    rounds-worn h _ q _ _ _ _ (c.loop-is_last.invariant.rounds h q right stands)
    c.loop-is_last-test.false c.if-is_worn.true

pub returns-clause-ok : goal.returns-clause-ok
returns-clause-ok g c = λ h q right stands.
    rounds-idle h _ q _ _ _ _ (c.loop-is_last.invariant.rounds h q right stands)
    c.loop-is_last-test.false c.if-is_worn.false
