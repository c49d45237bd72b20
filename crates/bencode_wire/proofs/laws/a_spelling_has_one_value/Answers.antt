use Rattle.bencode_wire.proofs.Spellings.{values_same}
use Rattle.bencode_wire.proofs.laws.a_spelling_has_one_value.Goals as goal

pub returns : goal.returns
returns c = values_same
