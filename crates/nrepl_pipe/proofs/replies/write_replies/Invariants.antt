use Rattle.std.proofs.Common.{◌≡◌, length, false}
use Rattle.server_rules.specs.Ground.{Ground}
use Rattle.server_rules.specs.LoneTurns.{LoneTenant}
use Rattle.nrepl_pipe.specs.Failing.{MarksFailure}
use Rattle.nrepl_pipe.specs.Reads.{IsPassedOn}
use Rattle.nrepl_pipe.proofs.Draining.{Drains}
use Rattle.nrepl_pipe.proofs.replies.write_replies.Given as goal

abbrev pub invariant-loop-reply : goal.invariant-loop-reply
invariant-loop-reply g l = record {
  steps : (g.C.Core.left l.core).steps ≡ (g.C.Core.left l.initial.core).steps;
  drains : (h : Ground) (q : LoneTenant) → g.C.Core.stands h l.initial.core q
      → Drains h (g.C.Core.stands h l.core) q
      (g.W.Sink.contents l.initial.writer) (g.W.Sink.contents l.writer);
  passed : IsPassedOn (g.W.Sink.contents l.initial.writer) (g.W.Sink.passed l.initial.writer)
      → IsPassedOn (g.W.Sink.contents l.writer) (g.W.Sink.passed l.writer);
  writes : MarksFailure (g.W.Sink.failed l.initial.writer) (g.W.Sink.failed l.writer) false;
}

abbrev pub decreases-loop-reply : goal.decreases-loop-reply
decreases-loop-reply g l = length (g.C.Core.left l.core).outbox
