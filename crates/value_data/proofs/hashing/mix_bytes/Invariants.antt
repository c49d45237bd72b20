use Rattle.std.proofs.Common.{◌≡◌, drop}
use Rattle.value_data.specs.Inside.Hash.{mixed_text}
use Rattle.value_data.proofs.hashing.mix_bytes.Given as goal

abbrev pub invariant-loop-byte : goal.invariant-loop-byte
invariant-loop-byte l = mixed_text l.hash (drop l.byte-index l.bytes) ≡ mixed_text l.seed l.bytes
