use Rattle.std.proofs.Common.{subst}
use Rattle.bencode_wire.specs.Inside.Decoding.{shown_state}
use Rattle.bencode_wire.specs.declared.decoder.Decoder.{Decoder}
use Rattle.bencode_wire.proofs.TokenParts.{HoldsSoMany, held_stands}
use Rattle.bencode_wire.proofs.decoder.Decoder.held.Goals as goal

pub returns : goal.returns
returns c = subst (λ (d : Decoder). HoldsSoMany d c.held.result) c.self.view_is (held_stands c.held.result (shown_state c.self.inside) c.held.ensures)
