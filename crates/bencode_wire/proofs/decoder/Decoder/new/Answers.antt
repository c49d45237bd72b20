use Rattle.std.proofs.Common.{refl, rules}
use Rattle.bencode_wire.proofs.Decoders.{decoder_stands, standing_new, holds_none}
use Rattle.bencode_wire.proofs.decoder.Decoder.new.Goals as goal

pub invariant_of-result : goal.invariant_of-result
invariant_of-result c = record { rests = λ e. holds_none c.args.limit _ c.new.ensures; before = tt }

pub returns-clause-stands : goal.returns-clause-stands
returns-clause-stands c = decoder_stands c.args.limit _ _ _ refl (standing_new c.args.limit _ c.new-2.result.items c.new.ensures (search rules))
