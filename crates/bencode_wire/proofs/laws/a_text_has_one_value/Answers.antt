use Rattle.bencode_wire.proofs.Prefix.{text_same}
use Rattle.bencode_wire.proofs.laws.a_text_has_one_value.Goals as goal

pub returns : goal.returns
returns c = text_same
