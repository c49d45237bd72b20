-- What has come of a stream, as the code tells it.
use Rattle.std.specs.Prelude.{[], ◌∷◌}
use Rattle.bencode_wire.specs.Stream.{StreamEnding, rest, fault}
use Rattle.bencode_wire.specs.Fault.{counted_place, fault_at}
use Rattle.server_rules.specs.declared.turns.Wire.{Wire}

abbrev pub wire_at : StreamEnding → Wire
wire_at (rest []) = Wire.Whole
wire_at (rest (byte ∷ m)) = Wire.Partial
wire_at (fault rule at) = Wire.Broken (fault_at rule (counted_place at))
