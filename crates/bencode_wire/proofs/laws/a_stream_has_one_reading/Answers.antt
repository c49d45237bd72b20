use Rattle.bencode_wire.proofs.Unique.{streams_same}
use Rattle.bencode_wire.proofs.laws.a_stream_has_one_reading.Goals as goal

pub returns : goal.returns
returns c = streams_same
