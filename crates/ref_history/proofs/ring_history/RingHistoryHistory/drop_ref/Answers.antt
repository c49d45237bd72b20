use Rattle.std.proofs.Common.{arith, ap, None}
use Rattle.ref_history.specs.Rung.{room_for, ring_number}
use Rattle.ref_history.proofs.Ringed.{same-others, found-there, reserved-set, in-kept}
use Rattle.ref_history.proofs.Ringed.{set-others, not-ring}
use Rattle.ref_history.proofs.ring_history.RingHistoryHistory.drop_ref.Goals as goal

pub invariant_of-self : goal.invariant_of-self
invariant_of-self c =
    let was = c.args.self.now in
    let refs = was.refs.items in
    let k = c.in-Some.kept in
    let there = (found-there was.rings refs c.args.id k c.in-Some.ensures) in
    let set = reserved-set refs c.set.new.self.items c.args.id.place None c.set.ensures.items
    (in-kept refs c.args.id.place k there.1) in
    let same = ap room_for there.1 in
    record {
      counted = omega (arith, set, same, c.reserved_without-reserved.ensures, was.counted);
    }

pub returns-clause-others : goal.returns-clause-others
returns-clause-others c =
    let was = c.args.self.now in
    same-others was.rings c.release.new.self was.refs.items
    c.set.new.self.items c.args.id
    (λ other differ. c.release.ensures.others (ring_number other)
    (not-ring c.args.id other c.ring_of.result c.ring_of.ensures differ))
    (λ n differ. set-others was.refs.items c.set.new.self.items c.args.id.place None c.set.ensures.items n differ)
