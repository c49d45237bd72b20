use Rattle.version_rings.specs.declared.ring_table.Slot.{Slot}
use Rattle.version_rings.proofs.Tables.{slot-here, slot-others, in-slots}
use Rattle.version_rings.proofs.ring_table.RingTable.try_remove.Goals as goal

pub returns-clause-changed : goal.returns-clause-changed
returns-clause-changed c =
    slot-here c.args.self.now.slots.items c.set.new.self.items c.args.place
    (Slot.Free c.args.self.now.next) c.set.ensures.items
    (in-slots c.args.self.now.slots.items c.args.place c.in_ok-ring.ring c.in_ok-ring.ensures)

pub returns-clause-others : goal.returns-clause-others
returns-clause-others c =
    slot-others c.args.self.now.slots.items c.set.new.self.items c.args.place
    (Slot.Free c.args.self.now.next) c.set.ensures.items
