use Rattle.std.proofs.Common.{rules, subst}
use Rattle.server_rules.specs.LoneTurns.{hears, lone_after, lone_run}
use Rattle.nrepl_pipe.specs.Inside.Parts.{MakesRounds}
use Rattle.nrepl_pipe.specs.declared.rounds.Rounds.{Rounds}
use Rattle.nrepl_pipe.proofs.Hearing.{takes-in}
use Rattle.nrepl_pipe.proofs.Serving.{serving-none, serving-more}
use Rattle.nrepl_pipe.proofs.Ending.{serves-all, serves-rounds, serves-worn}
use Rattle.nrepl_pipe.proofs.Telling.{read-up, broken-read_up, wire-clean, ends-worn, ends-broken}
use Rattle.nrepl_pipe.proofs.Breaking.{begins-lost, begins-unheard, begins-rounds}
use Rattle.nrepl_pipe.proofs.Outcomes.{outcome-err, on_ok-err}
use Rattle.nrepl_pipe.proofs.Marking.{marks-none, marks-behind}
use Rattle.nrepl_pipe.proofs.Reading.{reads-none, reads-more, passed-none, passed-once}
use Rattle.nrepl_pipe.proofs.stream.serve_stream.Goals as goal

pub loop-piece-init : goal.loop-piece-init
loop-piece-init g c = record {
  serving = λ h q right stands fresh. serving-none h _ q _ _ right stands fresh;
  prompt = λ h q right stands fresh. reads-none h q _ _ _;
  passed = λ was. (was, passed-none _);
  reads = marks-none _;
  writes = marks-none _;
}

pub loop-piece-preserved-in_default-wire : goal.loop-piece-preserved-in_default-wire
loop-piece-preserved-in_default-wire g c = record {
  serving = λ h q right stands fresh.
      let on = c.loop-piece.invariant.serving h q right stands fresh in
      let piece = rw c.in-Some.is at c.in_ok-piece.ensures.ok in
      let taken = takes-in h (g.C.Core.stands h c.hear_piece.new.core) (lone_run h q on.turns)
      c.in-Some.piece
      (rw c.in_default-2.is at c.in_ok-hear_piece.ensures.heard h (lone_run h q on.turns) right on.stands
      (on.no_fault, on.empty)) in
      let made = subst (λ (end : Rounds). MakesRounds h (g.C.Core.stands h c.run_rounds.new.core)
      (lone_after h (lone_run h q on.turns) (hears c.in-Some.piece)) (g.W.Sink.contents c.loop-piece.writer)
      (g.W.Sink.contents c.run_rounds.new.writer) end) c.in_default-3.is
      (c.in_ok-run_rounds.ensures.ok h _ right taken.stands) in
      serving-more h _ (g.C.Core.stands h c.hear_piece.new.core)
      (g.C.Core.stands h c.run_rounds.new.core) q _ _ _ _ _ _ c.in-Some.piece on piece.0 piece.1
      taken made
      (wire-clean c.wire.result _ (c.wire.ensures h _ made.2.stands) c.in_default-wire.not-Broken);
  prompt = λ h q right stands fresh.
      reads-more h _ q _ _ _ _ _ _ _ _ (c.loop-piece.invariant.serving h q right stands fresh)
      (c.loop-piece.invariant.prompt h q right stands fresh) c.in_ok-piece.ensures.noted;
  passed = λ was.
      let so = c.loop-piece.invariant.passed was in (
        c.in_ok-run_rounds.ensures.passed so.0,
        passed-once _ _ _ _ so.1 so.0 c.in_ok-piece.ensures.noted,
      );
  reads = marks-behind _ _ _ _ c.loop-piece.invariant.reads c.in_ok-piece.ensures.told;
  writes = marks-behind _ _ _ _ c.loop-piece.invariant.writes c.in_ok-run_rounds.ensures.told;
}

pub loop-piece-preserved : goal.loop-piece-preserved
loop-piece-preserved g c = record {
  serving = λ h q right stands fresh.
      let on = c.loop-piece.invariant.serving h q right stands fresh in
      let piece = rw c.in-Some.is at c.in_ok-piece.ensures.ok in
      let taken = takes-in h (g.C.Core.stands h c.hear_piece.new.core) (lone_run h q on.turns)
      c.in-Some.piece
      (rw c.in_default-2.is at c.in_ok-hear_piece.ensures.heard h (lone_run h q on.turns) right on.stands
      (on.no_fault, on.empty)) in
      let made = subst (λ (end : Rounds). MakesRounds h (g.C.Core.stands h c.run_rounds.new.core)
      (lone_after h (lone_run h q on.turns) (hears c.in-Some.piece)) (g.W.Sink.contents c.loop-piece.writer)
      (g.W.Sink.contents c.run_rounds.new.writer) end) c.in_default-3.is
      (c.in_ok-run_rounds.ensures.ok h _ right taken.stands) in
      serving-more h _ (g.C.Core.stands h c.hear_piece.new.core)
      (g.C.Core.stands h c.run_rounds.new.core) q _ _ _ _ _ _ c.in-Some.piece on piece.0 piece.1
      taken made
      (wire-clean c.wire.result _ (c.wire.ensures h _ made.2.stands) c.in_default-wire.not-Broken);
  prompt = λ h q right stands fresh.
      reads-more h _ q _ _ _ _ _ _ _ _ (c.loop-piece.invariant.serving h q right stands fresh)
      (c.loop-piece.invariant.prompt h q right stands fresh) c.in_ok-piece.ensures.noted;
  passed = λ was.
      let so = c.loop-piece.invariant.passed was in (
        c.in_ok-run_rounds.ensures.passed so.0,
        passed-once _ _ _ _ so.1 so.0 c.in_ok-piece.ensures.noted,
      );
  reads = marks-behind _ _ _ _ c.loop-piece.invariant.reads c.in_ok-piece.ensures.told;
  writes = marks-behind _ _ _ _ c.loop-piece.invariant.writes c.in_ok-run_rounds.ensures.told;
}

pub returns-in_err-piece : goal.returns-in_err-piece
returns-in_err-piece g c = record {
  served = λ h q right stands fresh.
      let on = c.loop-piece.invariant.serving h q right stands fresh in
      outcome-err h q _ _ _ _ c.from_residual.result c.from_residual.ensures.0
      (begins-lost h _ q _ _ _ _ _ on c.in_err-piece.ensures.err);
  prompt = λ h q right stands fresh.
      reads-more h _ q _ _ _ _ _ _ _ _ (c.loop-piece.invariant.serving h q right stands fresh)
      (c.loop-piece.invariant.prompt h q right stands fresh) c.in_err-piece.ensures.noted;
  passed = λ was.
      let so = c.loop-piece.invariant.passed was in (
        passed-once _ _ _ _ so.1 so.0 c.in_err-piece.ensures.noted,
        on_ok-err _ c.from_residual.result c.from_residual.ensures.0,
      );
  told = search rules;
  no_text = search rules;
}

pub returns-in_default : goal.returns-in_default
returns-in_default g c = record {
  served = λ h q right stands fresh.
      let on = c.loop-piece.invariant.serving h q right stands fresh in
      let none = rw c.in_default.is at c.in_ok-piece.ensures.ok in (
        serves-all h _ q _ _ _ _ _ c.end_of.result on none.0 (c.end_of.ensures h _ on.stands),
        read-up c.end_of.result _ none.1,
      );
  prompt = λ h q right stands fresh.
      reads-more h _ q _ _ _ _ _ _ _ _ (c.loop-piece.invariant.serving h q right stands fresh)
      (c.loop-piece.invariant.prompt h q right stands fresh) c.in_ok-piece.ensures.noted;
  passed = λ was.
      let so = c.loop-piece.invariant.passed was in (
        passed-once _ _ _ _ so.1 so.0 c.in_ok-piece.ensures.noted,
        so.0,
      );
  told = search rules;
  no_text = search rules;
}

pub returns-in_err-hear_piece : goal.returns-in_err-hear_piece
returns-in_err-hear_piece g c = record {
  served = λ h q right stands fresh.
      let on = c.loop-piece.invariant.serving h q right stands fresh in
      let piece = rw c.in-Some.is at c.in_ok-piece.ensures.ok in
      outcome-err h q _ _ _ _ c.from_residual-in_err-hear_piece.result
      c.from_residual-in_err-hear_piece.ensures.0
      (begins-unheard h _ q _ _ _ _ _ c.in-Some.piece on piece.0 piece.1);
  prompt = λ h q right stands fresh.
      reads-more h _ q _ _ _ _ _ _ _ _ (c.loop-piece.invariant.serving h q right stands fresh)
      (c.loop-piece.invariant.prompt h q right stands fresh) c.in_ok-piece.ensures.noted;
  passed = λ was.
      let so = c.loop-piece.invariant.passed was in (
        passed-once _ _ _ _ so.1 so.0 c.in_ok-piece.ensures.noted,
        on_ok-err _ c.from_residual-in_err-hear_piece.result c.from_residual-in_err-hear_piece.ensures.0,
      );
  told = search rules;
  no_text = search rules;
}

pub returns-in-Worn : goal.returns-in-Worn
returns-in-Worn g c = record {
  served = λ h q right stands fresh.
      let on = c.loop-piece.invariant.serving h q right stands fresh in
      let piece = rw c.in-Some.is at c.in_ok-piece.ensures.ok in
      let told = rw c.in-Worn.is at c.in_ok-hear_piece.ensures.heard h (lone_run h q on.turns) right
      on.stands (on.no_fault, on.empty) in
      (serves-worn h _ q _ _ _ _ _ c.in-Some.piece on piece.0 piece.1 told, tt);
  prompt = λ h q right stands fresh.
      reads-more h _ q _ _ _ _ _ _ _ _ (c.loop-piece.invariant.serving h q right stands fresh)
      (c.loop-piece.invariant.prompt h q right stands fresh) c.in_ok-piece.ensures.noted;
  passed = λ was.
      let so = c.loop-piece.invariant.passed was in (
        passed-once _ _ _ _ so.1 so.0 c.in_ok-piece.ensures.noted,
        so.0,
      );
  told = search rules;
  no_text = search rules;
}

pub returns-in_err-run_rounds : goal.returns-in_err-run_rounds
returns-in_err-run_rounds g c = record {
  served = λ h q right stands fresh.
      let on = c.loop-piece.invariant.serving h q right stands fresh in
      let piece = rw c.in-Some.is at c.in_ok-piece.ensures.ok in
      let taken = takes-in h (g.C.Core.stands h c.hear_piece.new.core) (lone_run h q on.turns)
      c.in-Some.piece
      (rw c.in_default-2.is at c.in_ok-hear_piece.ensures.heard h (lone_run h q on.turns) right on.stands
      (on.no_fault, on.empty)) in
      outcome-err h q _ _ _ _ c.from_residual-in_err-run_rounds.result
      c.from_residual-in_err-run_rounds.ensures.0
      (begins-rounds h _ (g.C.Core.stands h c.hear_piece.new.core) q _ _ _ _ _ _ c.in-Some.piece on
      piece.0 piece.1 taken (c.in_err-run_rounds.ensures.err h _ right taken.stands));
  prompt = λ h q right stands fresh.
      reads-more h _ q _ _ _ _ _ _ _ _ (c.loop-piece.invariant.serving h q right stands fresh)
      (c.loop-piece.invariant.prompt h q right stands fresh) c.in_ok-piece.ensures.noted;
  passed = λ was.
      let so = c.loop-piece.invariant.passed was in (
        passed-once _ _ _ _ so.1 so.0 c.in_ok-piece.ensures.noted,
        on_ok-err _ c.from_residual-in_err-run_rounds.result c.from_residual-in_err-run_rounds.ensures.0,
      );
  told = search rules;
  no_text = search rules;
}

pub returns-in-Worn-2 : goal.returns-in-Worn-2
returns-in-Worn-2 g c = record {
  served = λ h q right stands fresh.
      let on = c.loop-piece.invariant.serving h q right stands fresh in
      let piece = rw c.in-Some.is at c.in_ok-piece.ensures.ok in
      let taken = takes-in h (g.C.Core.stands h c.hear_piece.new.core) (lone_run h q on.turns)
      c.in-Some.piece
      (rw c.in_default-2.is at c.in_ok-hear_piece.ensures.heard h (lone_run h q on.turns) right on.stands
      (on.no_fault, on.empty)) in
      let made = subst (λ (end : Rounds). MakesRounds h (g.C.Core.stands h c.run_rounds.new.core)
      (lone_after h (lone_run h q on.turns) (hears c.in-Some.piece)) (g.W.Sink.contents c.loop-piece.writer)
      (g.W.Sink.contents c.run_rounds.new.writer) end) c.in-Worn-2.is
      (c.in_ok-run_rounds.ensures.ok h _ right taken.stands) in (
        serves-rounds h _ (g.C.Core.stands h c.hear_piece.new.core)
            (g.C.Core.stands h c.run_rounds.new.core) q _ _ _ _ _ _ c.in-Some.piece Rounds.Worn _ on
            piece.0 piece.1 taken made
            (ends-worn h (g.C.Core.stands h c.run_rounds.new.core) (lone_run h q on.turns) _ _
            c.in-Some.piece made),
        tt,
      );
  prompt = λ h q right stands fresh.
      reads-more h _ q _ _ _ _ _ _ _ _ (c.loop-piece.invariant.serving h q right stands fresh)
      (c.loop-piece.invariant.prompt h q right stands fresh) c.in_ok-piece.ensures.noted;
  passed = λ was.
      let so = c.loop-piece.invariant.passed was in (
        passed-once _ _ _ _ so.1 so.0 c.in_ok-piece.ensures.noted,
        c.in_ok-run_rounds.ensures.passed so.0,
      );
  told = search rules;
  no_text = search rules;
}

pub returns-in-Broken : goal.returns-in-Broken
returns-in-Broken g c = record {
  served = λ h q right stands fresh.
      let on = c.loop-piece.invariant.serving h q right stands fresh in
      let piece = rw c.in-Some.is at c.in_ok-piece.ensures.ok in
      let taken = takes-in h (g.C.Core.stands h c.hear_piece.new.core) (lone_run h q on.turns)
      c.in-Some.piece
      (rw c.in_default-2.is at c.in_ok-hear_piece.ensures.heard h (lone_run h q on.turns) right on.stands
      (on.no_fault, on.empty)) in
      let made = subst (λ (end : Rounds). MakesRounds h (g.C.Core.stands h c.run_rounds.new.core)
      (lone_after h (lone_run h q on.turns) (hears c.in-Some.piece)) (g.W.Sink.contents c.loop-piece.writer)
      (g.W.Sink.contents c.run_rounds.new.writer) end) c.in_default-3.is
      (c.in_ok-run_rounds.ensures.ok h _ right taken.stands) in (
        serves-rounds h _ (g.C.Core.stands h c.hear_piece.new.core)
            (g.C.Core.stands h c.run_rounds.new.core) q _ _ _ _ _ _ c.in-Some.piece Rounds.Idle _ on
            piece.0 piece.1 taken made
            (ends-broken h (g.C.Core.stands h c.hear_piece.new.core)
            (g.C.Core.stands h c.run_rounds.new.core) (lone_run h q on.turns) _ _ c.in-Some.piece _ taken
            made (c.end_of-in-Broken.ensures h _ made.2.stands)),
        broken-read_up c.in-Broken.field-0 _ _ _ (c.in-Broken.ensures h _ made.2.stands)
            (c.end_of-in-Broken.ensures h _ made.2.stands),
      );
  prompt = λ h q right stands fresh.
      reads-more h _ q _ _ _ _ _ _ _ _ (c.loop-piece.invariant.serving h q right stands fresh)
      (c.loop-piece.invariant.prompt h q right stands fresh) c.in_ok-piece.ensures.noted;
  passed = λ was.
      let so = c.loop-piece.invariant.passed was in (
        passed-once _ _ _ _ so.1 so.0 c.in_ok-piece.ensures.noted,
        c.in_ok-run_rounds.ensures.passed so.0,
      );
  told = search rules;
  no_text = search rules;
}
