-- A decoder beside the bytes that a tenant has heard.
use Rattle.std.specs.Prelude.{◌≡◌, ℕ, List, []}
use Rattle.bencode_wire.specs.Inside.Decoder.{ready_of, fault_of, DecoderStands}
use Rattle.bencode_wire.specs.declared.decoder.Decoder.{Decoder}
use Rattle.server_rules.specs.Ground.{Ground}
use Rattle.server_rules.specs.Hearing.{stream_fault}
use Rattle.server_rules.specs.Readings.{message_limit}

-- it has read them, all their messages were taken, and its fault is that of the stream
pub record HasReadAll (g : Ground) (bytes : List ℕ) (d : Decoder) : Type 0 where
  pub stands : DecoderStands message_limit d bytes (g.readings.stream bytes).messages
  pub ready : ready_of d ≡ []
  pub fault : fault_of d ≡ stream_fault g.readings bytes
