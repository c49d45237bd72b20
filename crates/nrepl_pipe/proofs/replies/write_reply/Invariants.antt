use Rattle.std.proofs.Common.{◌≡◌, List, ℕ, ◌++◌, length, false}
use Rattle.std.specs.Io.KnownBytes.{Appends}
use Rattle.nrepl_pipe.specs.Failing.{MarksFailure}
use Rattle.nrepl_pipe.proofs.replies.write_reply.Given as goal

abbrev pub invariant-loop-rest : goal.invariant-loop-rest
invariant-loop-rest g l = record {
  written : (front : List ℕ) × (l.reply ≡ front ++ l.rest)
      × Appends (g.W.Sink.contents l.initial.writer) (g.W.Sink.contents l.writer) front;
  writes : MarksFailure (g.W.Sink.failed l.initial.writer) (g.W.Sink.failed l.writer) false;
}

abbrev pub decreases-loop-rest : goal.decreases-loop-rest
decreases-loop-rest g l = length l.rest
