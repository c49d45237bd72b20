use Rattle.bencode_wire.proofs.Spellings.{spellings_same}
use Rattle.bencode_wire.proofs.laws.no_spelling_begins_another.Goals as goal

pub returns : goal.returns
returns c = spellings_same
