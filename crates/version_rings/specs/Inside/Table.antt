-- The rings of a table, under their numbers.
use Rattle.std.specs.Prelude.{List, Option, None, Some, map}
use Rattle.version_rings.specs.declared.node.Ring.{Ring}
use Rattle.version_rings.specs.declared.ring_table.RingTable.{RingTable}
use Rattle.version_rings.specs.declared.ring_table.Slot.{Slot}

abbrev pub ring_in : Slot → Option Ring
ring_in (Slot.Taken ring) = Some ring
ring_in (Slot.Free next) = None

abbrev pub rings_of : RingTable → List (Option Ring)
rings_of table = map ring_in table.slots.items
