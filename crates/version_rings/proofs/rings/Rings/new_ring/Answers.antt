use Rattle.version_rings.specs.Inside.Seen.{space, room}
use Rattle.version_rings.specs.Inside.Table.{rings_of}
use Rattle.version_rings.proofs.Calls.{made, seen-here, seen-others}
use Rattle.version_rings.proofs.rings.Rings.new_ring.Goals as goal

pub invariant_of-self-2 : goal.invariant_of-self-2
invariant_of-self-2 c =
    (made (space c.self.inside.nodes) (space c.put.new.self) (rings_of c.self.inside.rings)
    (rings_of c.reserve.new.self) (rings_of c.insert_reserved-id.new.self) c.insert_reserved-id.result
    c.vacant-place.result c.args.value c.self.invariant
    c.in_ok-reserve.ensures.same c.vacant-place.ensures
    c.in_ok-put.ensures.put c.insert_reserved-id.ensures.was_vacant
    c.insert_reserved-id.ensures.changed c.insert_reserved-id.ensures.others).sound

pub returns-clause-made : goal.returns-clause-made
returns-clause-made c =
    seen-here (room c.put.new.self) (space c.self.inside.nodes) (space c.put.new.self)
    (rings_of c.self.inside.rings)
    (rings_of c.insert_reserved-id.new.self) (record { place = c.insert_reserved-id.result }) _
    (made (space c.self.inside.nodes) (space c.put.new.self) (rings_of c.self.inside.rings)
    (rings_of c.reserve.new.self) (rings_of c.insert_reserved-id.new.self) c.insert_reserved-id.result
    c.vacant-place.result c.args.value c.self.invariant
    c.in_ok-reserve.ensures.same c.vacant-place.ensures
    c.in_ok-put.ensures.put c.insert_reserved-id.ensures.was_vacant
    c.insert_reserved-id.ensures.changed c.insert_reserved-id.ensures.others)

pub returns-clause-others : goal.returns-clause-others
returns-clause-others c =
    seen-others (room c.self.inside.nodes) (room c.put.new.self) (space c.self.inside.nodes)
    (space c.put.new.self) (rings_of c.self.inside.rings)
    (rings_of c.insert_reserved-id.new.self) c.args.self.now
    (record { place = c.insert_reserved-id.result }) _ c.self.view_is
    (made (space c.self.inside.nodes) (space c.put.new.self) (rings_of c.self.inside.rings)
    (rings_of c.reserve.new.self) (rings_of c.insert_reserved-id.new.self) c.insert_reserved-id.result
    c.vacant-place.result c.args.value c.self.invariant
    c.in_ok-reserve.ensures.same c.vacant-place.ensures
    c.in_ok-put.ensures.put c.insert_reserved-id.ensures.was_vacant
    c.insert_reserved-id.ensures.changed c.insert_reserved-id.ensures.others)
