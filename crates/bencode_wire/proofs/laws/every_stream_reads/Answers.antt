use Rattle.bencode_wire.proofs.Streams.{stream_read}
use Rattle.bencode_wire.proofs.laws.every_stream_reads.Goals as goal

pub returns : goal.returns
returns c = stream_read
