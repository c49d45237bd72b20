use Rattle.bencode_wire.proofs.Canonical.{canonical_of, canonical_spells}
use Rattle.bencode_wire.proofs.laws.what_is_written_is_a_spelling.Goals as goal

pub returns-clause-value : goal.returns-clause-value
returns-clause-value c = canonical_of

pub returns-clause-spelled : goal.returns-clause-spelled
returns-clause-spelled c = canonical_spells
