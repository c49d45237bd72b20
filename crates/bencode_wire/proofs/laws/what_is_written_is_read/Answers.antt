use Rattle.bencode_wire.proofs.Messages.{written_read}
use Rattle.bencode_wire.proofs.laws.what_is_written_is_read.Goals as goal

pub returns : goal.returns
returns c = written_read
