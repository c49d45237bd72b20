use Rattle.version_rings.specs.declared.ring_table.Slot.{Slot}
use Rattle.version_rings.proofs.Tables.{slots-set}
use Rattle.version_rings.proofs.ring_table.RingTable.set.Goals as goal

pub returns : goal.returns
returns c =
    slots-set c.args.self.now.slots.items c.set.new.self.items c.args.place
    (Slot.Taken c.args.ring) c.set.ensures.items
