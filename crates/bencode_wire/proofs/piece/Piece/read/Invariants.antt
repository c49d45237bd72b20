use Rattle.std.proofs.Common.{◌≤◌, ◌-◌, length}
use Rattle.bencode_wire.specs.Inside.Fronts.{BeginsWith}
use Rattle.bencode_wire.specs.Inside.Course.{Advances, ahead}
use Rattle.bencode_wire.specs.Inside.GoingBack.{GoesBack}
use Rattle.bencode_wire.proofs.piece.Piece.read.Given as goal

abbrev pub invariant-loop-at : goal.invariant-loop-at
invariant-loop-at l = record {
  within : l.at ≤ length l.self.bytes.now;
  front : BeginsWith l.ready.items l.initial.ready.items;
  advances : Advances (ahead l.self.limit l.self.bytes.now l.initial.message 0) (ahead l.self.limit l.self.bytes.now l.message l.at) l.initial.ready.items l.ready.items;
  back : GoesBack l.initial.message.reader l.message.reader;
}

abbrev pub decreases-loop-at : goal.decreases-loop-at
decreases-loop-at l = length l.self.bytes.now - l.at
