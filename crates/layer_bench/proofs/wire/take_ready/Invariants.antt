use Rattle.std.proofs.Common.{◌≡◌, ◌+◌, length}
use Rattle.bencode_wire.specs.Inside.Decoder.{ready_of}
use Rattle.layer_bench.proofs.wire.take_ready.Given as goal

abbrev pub invariant-loop-taken : goal.invariant-loop-taken
invariant-loop-taken l = l.taken + length (ready_of l.decoder) ≡ length (ready_of l.initial.decoder)
