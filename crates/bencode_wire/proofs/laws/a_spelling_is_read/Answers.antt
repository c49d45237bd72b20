use Rattle.bencode_wire.proofs.Messages.{spelling_read}
use Rattle.bencode_wire.proofs.laws.a_spelling_is_read.Goals as goal

pub returns : goal.returns
returns c = spelling_read
