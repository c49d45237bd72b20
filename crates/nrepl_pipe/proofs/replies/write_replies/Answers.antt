use Rattle.std.proofs.Common.{refl, sym, subst, ◌∙◌}
use Rattle.std.specs.Io.KnownBytes.{Appends}
use Rattle.server_rules.specs.declared.refusal.Refusal.{Refusal}
use Rattle.nrepl_pipe.proofs.Growing.{on_err}
use Rattle.nrepl_pipe.proofs.Draining.{drains-none, drains-more, drains-all, drains-broken}
use Rattle.nrepl_pipe.proofs.Marking.{marks-none, marks-behind}
use Rattle.nrepl_pipe.proofs.replies.write_replies.Goals as goal

pub loop-reply-init : goal.loop-reply-init
loop-reply-init g c = record {
  steps = refl;
  drains = λ h q stands. drains-none h _ q _ stands;
  passed = λ was. was;
  writes = marks-none _;
}

pub returns-in_err-write_reply-clause-err : goal.returns-in_err-write_reply-clause-err
returns-in_err-write_reply-clause-err g c = λ h q stands.
    let d = c.loop-reply.invariant.drains h q stands in
    let broken = c.in_err-write_reply.ensures.err in
    on_err c.from_residual.result
    (drains-broken h _ _ q _ _ _ _ broken.0 broken.1 d (c.in-Some.ensures.drained h d.now d.stands)
    (sym c.as_slice.ensures.value ∙ broken.2) broken.3)

pub loop-reply-preserved : goal.loop-reply-preserved
loop-reply-preserved g c = record {
  steps = c.in-Some.ensures.steps ∙ c.loop-reply.invariant.steps;
  drains = λ h q stands.
      let d = c.loop-reply.invariant.drains h q stands in
      drains-more h _ _ q _ _ _ _ d (c.in-Some.ensures.drained h d.now d.stands)
      (subst (Appends _ _) c.as_slice.ensures.value c.in_ok-write_reply.ensures.ok);
  passed = λ was. c.in_ok-write_reply.ensures.passed;
  writes = marks-behind _ _ _ _ c.loop-reply.invariant.writes c.in_ok-write_reply.ensures.told;
}

pub returns-clause-ok : goal.returns-clause-ok
returns-clause-ok g c = λ h q stands.
    let d = c.loop-reply.invariant.drains h q stands in
    let none = c.in_default.ensures.drained h d.now d.stands in
    drains-all h (g.C.Core.stands h c.loop-reply.core) (g.C.Core.stands h c.drain.new.self) q
    (g.W.Sink.contents c.args.writer.now) (g.W.Sink.contents c.loop-reply.writer) Refusal.Idle d
    none.0 none.1
