use Rattle.std.proofs.Common.{◌≡◌, arith, ap, refl, sym, ◌+◌, ℕ, Some, true, nat_lt}
use Rattle.ref_history.specs.Versioned.{with_failed_read}
use Rattle.ref_history.specs.Rung.{room_for}
use Rattle.ref_history.specs.declared.ring_ref.RingRef.{RingRef}
use Rattle.ref_history.proofs.Ringed.{changed-in, found-there, reserved-set, in-kept, set-here}
use Rattle.ref_history.proofs.Ringed.{set-others}
use Rattle.ref_history.proofs.ring_history.RingHistory.fault.Goals as goal

pub invariant_of-self : goal.invariant_of-self
invariant_of-self c =
    let was = c.args.self.now in
    let refs = was.refs.items in
    let k = c.in-Some.kept in
    let there = (found-there was.rings refs c.args.id k c.in-Some.ensures) in
    let to : RingRef = record k { is_faulted = true } in
    let set = reserved-set refs c.set.new.self.items c.args.id.place (Some to) c.set.ensures.items
    (in-kept refs c.args.id.place k there.1) in
    let same = ap room_for there.1 in
    let known = was.counted in
    record { counted = omega (arith, set, same, known) }

pub returns-in-Some : goal.returns-in-Some
returns-in-Some c =
    let was = c.args.self.now in
    let refs = was.refs.items in
    let k = c.in-Some.kept in
    let there = (found-there was.rings refs c.args.id k c.in-Some.ensures) in
    let to : RingRef = record k { is_faulted = true } in
    changed-in was.rings was.rings refs _ c.args.id k to with_failed_read
    c.in-Some.ensures (set-here refs c.set.new.self.items c.args.id.place k (Some to) c.set.ensures.items there.1)
    (λ other differ. refl) (λ n differ. set-others refs c.set.new.self.items c.args.id.place (Some to) c.set.ensures.items n differ)
    (λ r s. record {
      versions = s.versions;
      many = s.many;
      faults = sym (above r.faults);
      bounds = s.bounds;
    })
  where
    above : (n : ℕ) → nat_lt 0 (n + 1) ≡ true
    above n = grind arith
