use Rattle.version_rings.specs.declared.ring_table.Slot.{Slot}
use Rattle.version_rings.proofs.Tables.{slot-here, slot-others}
use Rattle.version_rings.proofs.ring_table.RingTable.insert_reserved.Goals as goal

pub returns-in-Some-clause-changed : goal.returns-in-Some-clause-changed
returns-in-Some-clause-changed c =
    slot-here c.args.self.now.slots.items c.set.new.self.items c.args.self.now.next
    (Slot.Taken c.args.ring) c.set.ensures.items c.in-Some.ensures.within

pub returns-in-Some-clause-others : goal.returns-in-Some-clause-others
returns-in-Some-clause-others c =
    slot-others c.args.self.now.slots.items c.set.new.self.items c.args.self.now.next
    (Slot.Taken c.args.ring) c.set.ensures.items
