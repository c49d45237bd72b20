use Rattle.std.proofs.Common.{false}
use Rattle.server_rules.specs.Ground.{Ground}
use Rattle.server_rules.specs.LoneTurns.{LoneTenant}
use Rattle.server_rules.specs.Grounds.{IsRight}
use Rattle.nrepl_pipe.specs.Failing.{MarksFailure}
use Rattle.nrepl_pipe.specs.Reads.{ReadsPromptly, IsPassedOn, ReadsPassedOn}
use Rattle.nrepl_pipe.specs.Inside.Fresh.{IsFresh}
use Rattle.nrepl_pipe.proofs.Serving.{Serving}
use Rattle.nrepl_pipe.proofs.stream.serve_stream.Given as goal

abbrev pub invariant-loop-piece : goal.invariant-loop-piece
invariant-loop-piece g l = record {
  serving : (h : Ground) (q : LoneTenant) → IsRight h → g.C.Core.stands h l.initial.core q → IsFresh q
      → Serving h (g.C.Core.stands h l.core) q
      (g.R.Source.remaining l.initial.reader) (g.R.Source.remaining l.reader)
      (g.W.Sink.contents l.initial.writer) (g.W.Sink.contents l.writer);
  prompt : (h : Ground) (q : LoneTenant) → IsRight h → g.C.Core.stands h l.initial.core q → IsFresh q
      → ReadsPromptly h q (g.R.Source.remaining l.initial.reader)
      (g.W.Sink.contents l.initial.writer) (g.R.Source.reads l.initial.reader)
      (g.R.Source.reads l.reader);
  passed : IsPassedOn (g.W.Sink.contents l.initial.writer) (g.W.Sink.passed l.initial.writer)
      → IsPassedOn (g.W.Sink.contents l.writer) (g.W.Sink.passed l.writer)
      × ReadsPassedOn (g.R.Source.reads l.initial.reader) (g.R.Source.reads l.reader);
  reads : MarksFailure (g.R.Source.failed l.initial.reader) (g.R.Source.failed l.reader) false;
  writes : MarksFailure (g.W.Sink.failed l.initial.writer) (g.W.Sink.failed l.writer) false;
}

abbrev pub decreases-loop-piece : goal.decreases-loop-piece
decreases-loop-piece g l = (g.C.Core.left l.core).steps
