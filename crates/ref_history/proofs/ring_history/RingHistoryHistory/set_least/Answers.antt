use Rattle.std.proofs.Common.{arith, ap, refl, Some}
use Rattle.ref_history.specs.Versioned.{with_least}
use Rattle.ref_history.specs.Rung.{room_for}
use Rattle.ref_history.specs.declared.ref_id.Bounds.{Bounds}
use Rattle.ref_history.specs.declared.ring_ref.RingRef.{RingRef}
use Rattle.ref_history.proofs.Ringed.{changed-in, found-there, reserved-set, in-kept, set-here}
use Rattle.ref_history.proofs.Ringed.{set-others}
use Rattle.ref_history.proofs.ring_history.RingHistoryHistory.set_least.Goals as goal

pub invariant_of-self : goal.invariant_of-self
invariant_of-self c =
    let was = c.args.self.now in
    let k = c.in-Some.kept in
    let there = (found-there was.rings was.refs.items c.args.id k c.in-Some.ensures).1 in
    let to : RingRef = record k { bounds = record k.bounds { least = c.args.least } } in
    let set = reserved-set was.refs.items c.set.new.self.items c.args.id.place (Some to) c.set.ensures.items
    (in-kept was.refs.items c.args.id.place k there) in
    let same = ap room_for there in
    let known = was.counted in
    record { counted = omega (arith, set, same, known) }

pub returns-in-Some : goal.returns-in-Some
returns-in-Some c =
    let was = c.args.self.now in
    let k = c.in-Some.kept in
    let there = (found-there was.rings was.refs.items c.args.id k c.in-Some.ensures).1 in
    let to : RingRef = record k { bounds = record k.bounds { least = c.args.least } } in
    changed-in was.rings was.rings was.refs.items _ c.args.id k to (with_least c.args.least)
    c.in-Some.ensures (set-here was.refs.items c.set.new.self.items c.args.id.place k (Some to) c.set.ensures.items there)
    (λ other differ. refl)
    (λ n differ. set-others was.refs.items c.set.new.self.items c.args.id.place (Some to) c.set.ensures.items n differ)
    (λ r s. record {
      versions = s.versions;
      many = s.many;
      faults = s.faults;
      bounds = ap (λ (b : Bounds). record b { least = c.args.least }) s.bounds;
    })
