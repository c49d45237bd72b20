use Rattle.std.proofs.Common.{sym, ap, ◌∙◌}
use Rattle.bencode_wire.specs.Inside.Decoder.{fault_of}
use Rattle.bencode_wire.proofs.Decoders.{feed_stays}
use Rattle.bencode_wire.proofs.decoder.Decoder.feed.Goals as goal

pub returns-in-Some-clause-stands : goal.returns-in-Some-clause-stands
returns-in-Some-clause-stands c = λ limit all taken s other.
    feed_stays limit c.args.self.now all taken c.args.piece.now c.in-Some.fault (ap fault_of (sym c.self.view_is) ∙ c.in-Some.is) s
