use Rattle.std.proofs.Common.{◌+◌, ◌≤◌, false, if◌then◌else◌}
use Rattle.server_rules.specs.Ground.{Ground}
use Rattle.server_rules.specs.LoneTurns.{LoneTenant}
use Rattle.server_rules.specs.Grounds.{IsRight}
use Rattle.nrepl_pipe.specs.Failing.{MarksFailure}
use Rattle.nrepl_pipe.specs.Reads.{IsPassedOn}
use Rattle.nrepl_pipe.proofs.Rounding.{RoundsOn}
use Rattle.nrepl_pipe.proofs.rounds.run_rounds.Given as goal

abbrev pub invariant-loop-is_last : goal.invariant-loop-is_last
invariant-loop-is_last g l = record {
  steps : (g.C.Core.left l.core).steps ≤ (g.C.Core.left l.fn.core).steps;
  rounds : (h : Ground) (q : LoneTenant) → IsRight h → g.C.Core.stands h l.fn.core q
      → RoundsOn h (g.C.Core.stands h l.core) q l.is_last l.is_worn
      (g.W.Sink.contents l.fn.writer) (g.W.Sink.contents l.writer);
  passed : IsPassedOn (g.W.Sink.contents l.fn.writer) (g.W.Sink.passed l.fn.writer)
      → IsPassedOn (g.W.Sink.contents l.writer) (g.W.Sink.passed l.writer);
  writes : MarksFailure (g.W.Sink.failed l.fn.writer) (g.W.Sink.failed l.writer) false;
}

-- a round behind which another follows uses up a step
abbrev pub decreases-loop-is_last : goal.decreases-loop-is_last
decreases-loop-is_last g l = (g.C.Core.left l.core).steps + (if l.is_last then 0 else 1)
