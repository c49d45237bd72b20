use Rattle.std.proofs.Common.{◌≡◌, ◌≢◌, ◌<◌, arith, ap, sym, ◌∙◌, refl, Some, cond, Bool}
use Rattle.std.proofs.Common.{false}
use Rattle.std.proofs.Common.{subst, List}
use Rattle.value_data.specs.Inside.View.{view}
use Rattle.version_rings.specs.Rings.{versions}
use Rattle.version_rings.specs.Versions as ring
use Rattle.version_rings.specs.Versions.{pushed}
use Rattle.version_rings.specs.declared.node.RingId.{RingId}
use Rattle.ref_history.specs.Versioned.{with_version}
use Rattle.ref_history.specs.Effects.{version}
use Rattle.ref_history.specs.Rung.{RingKept, room_for, ring_number}
use Rattle.ref_history.specs.Rung.{versions_of}
use Rattle.ref_history.specs.declared.ring_ref.RingRef.{RingRef}
use Rattle.ref_history.proofs.Ringed.{changed-in, other-place, found-there, reserved-set, in-kept}
use Rattle.ref_history.proofs.Ringed.{set-here}
use Rattle.ref_history.proofs.Ringed.{set-others, some-ref-in, added-in, of-ok, not-ring}
use Rattle.ref_history.proofs.Ringed.{room-after}
use Rattle.ref_history.proofs.Ringed.{room-same}
use Rattle.ref_history.proofs.ring_history.RingHistoryHistory.add_version.Goals as goal

pub invariant_of-self : goal.invariant_of-self
invariant_of-self c =
    let was = c.args.self.now in
    let refs = was.refs.items in
    let k = c.in-Some.kept in
    let there = (found-there was.rings refs c.args.id k c.in-Some.ensures) in
    let seen = some-ref-in (versions_of was.rings c.args.id) k there.0 in
    let room = c.requires k seen.0 there.1 seen.1
    (sym (c.grows-grows.ensures seen.0 seen.1) ∙ c.if-grows.true) in
    let to : RingRef = record k { has_room = false; is_faulted = false } in
    let set = reserved-set refs c.set.new.self.items c.args.id.place (Some to) c.set.ensures.items
    (in-kept refs c.args.id.place k there.1) in
    let same = ap room_for there.1 in
    let one : room_for (Some k) ≡ 1 = ap (λ (b : Bool). cond b 1 0) room.0 in
    let known = was.counted in
    record { counted = omega (arith, set, same, one, known, c.saturating_sub-self.ensures) }

pub returns-then-grows-clause-added : goal.returns-then-grows-clause-added
returns-then-grows-clause-added c =
    let was = c.args.self.now in
    let refs = was.refs.items in
    let k = c.in-Some.kept in
    let there = (found-there was.rings refs c.args.id k c.in-Some.ensures) in
    let e = c.ring_of.ensures in
    let v = ring.version c.args.stamp (view c.args.value) in
    let g = c.grows-grows.result in
    let seen = some-ref-in (versions_of was.rings c.args.id) k there.0 in
    let room = c.requires k seen.0 there.1 seen.1
    (sym (c.grows-grows.ensures seen.0 seen.1) ∙ c.if-grows.true) in
    let to : RingRef = record k { has_room = false; is_faulted = false } in
    let set = reserved-set refs c.set.new.self.items c.args.id.place (Some to) c.set.ensures.items
    (in-kept refs c.args.id.place k there.1) in
    let same = ap room_for there.1 in
    let one : room_for (Some k) ≡ 1 = ap (λ (b : Bool). cond b 1 0) room.0 in
    let some : 0 < was.rings.room = omega (arith, set, same, one, room.1) in
    let now-pushed = of-ok c.push.result (c.push.ensures.room some) c.push.ensures.pushed in
    let is : versions_of c.push.new.self c.args.id ≡ pushed g v (versions_of was.rings c.args.id) =
    sym (ap (versions c.push.new.self) e) ∙ now-pushed
    ∙ ap (λ (x : RingId). pushed g v (versions was.rings x)) e in
    changed-in was.rings c.push.new.self refs c.set.new.self.items c.args.id
    k to (with_version (version c.args.stamp (view c.args.value))) c.in-Some.ensures
    (set-here refs c.set.new.self.items c.args.id.place k (Some to) c.set.ensures.items there.1)
    (λ other differ. c.push.ensures.others (ring_number other)
    (not-ring c.args.id other c.ring_of.result e differ))
    (λ n differ. set-others refs c.set.new.self.items c.args.id.place (Some to) c.set.ensures.items n differ)
    (λ r s. subst (λ (vs : List ring.Version).
    RingKept vs to (with_version (version c.args.stamp (view c.args.value)) r)) (sym is)
    (added-in (versions_of was.rings c.args.id) v k to r g there.0 (c.grows-grows.ensures r s)
    s (sym (ap (λ (b : Bool). cond b false k.is_faulted) c.if-grows.true)) refl))

pub returns-then-grows-clause-rooms : goal.returns-then-grows-clause-rooms
returns-then-grows-clause-rooms c = λ other differ had found r at kept grow.
    let was = c.args.self.now in
    let refs = was.refs.items in
    let k = c.in-Some.kept in
    let there = (found-there was.rings refs c.args.id k c.in-Some.ensures) in
    let e = c.ring_of.ensures in
    let v = ring.version c.args.stamp (view c.args.value) in
    let g = c.grows-grows.result in
    let seen = some-ref-in (versions_of was.rings c.args.id) k there.0 in
    let room = c.requires k seen.0 there.1 seen.1
    (sym (c.grows-grows.ensures seen.0 seen.1) ∙ c.if-grows.true) in
    let to : RingRef = record k { has_room = false; is_faulted = false } in
    let set = reserved-set refs c.set.new.self.items c.args.id.place (Some to) c.set.ensures.items
    (in-kept refs c.args.id.place k there.1) in
    let same = ap room_for there.1 in
    let one : room_for (Some k) ≡ 1 = ap (λ (b : Bool). cond b 1 0) room.0 in
    let some : 0 < was.rings.room = omega (arith, set, same, one, room.1) in
    let took = room-after g _ was.rings c.push.new.self
    (of-ok c.push.result (c.push.ensures.room some) c.push.ensures.nodes) in
    let lists = c.push.ensures.others (ring_number other)
    (not-ring c.args.id other c.ring_of.result e differ) in
    let place : other.place ≢ c.args.id.place = other-place c.args.id other differ in
    let known = had found r (sym (set-others refs c.set.new.self.items c.args.id.place (Some to) c.set.ensures.items other.place place) ∙ at)
    (subst (λ (vs : List ring.Version). RingKept vs found r) lists kept) grow in
    (known.0, omega (arith, set, same, one, took, known.1))

pub returns-else-grows-clause-added : goal.returns-else-grows-clause-added
returns-else-grows-clause-added c =
    let was = c.args.self.now in
    let refs = was.refs.items in
    let k = c.in-Some.kept in
    let there = (found-there was.rings refs c.args.id k c.in-Some.ensures) in
    let e = c.ring_of.ensures in
    let v = ring.version c.args.stamp (view c.args.value) in
    let g = c.grows-grows.result in
    let now-pushed = of-ok c.push.result (c.push.ensures.overwrites c.if-grows.false)
    c.push.ensures.pushed in
    let is : versions_of c.push.new.self c.args.id ≡ pushed g v (versions_of was.rings c.args.id) =
    sym (ap (versions c.push.new.self) e) ∙ now-pushed
    ∙ ap (λ (x : RingId). pushed g v (versions was.rings x)) e in
    changed-in was.rings c.push.new.self refs refs c.args.id
    k k (with_version (version c.args.stamp (view c.args.value))) c.in-Some.ensures there.1
    (λ other differ. c.push.ensures.others (ring_number other)
    (not-ring c.args.id other c.ring_of.result e differ))
    (λ n differ. refl)
    (λ r s. subst (λ (vs : List ring.Version).
    RingKept vs k (with_version (version c.args.stamp (view c.args.value)) r)) (sym is)
    (added-in (versions_of was.rings c.args.id) v k k r g there.0 (c.grows-grows.ensures r s)
    s (sym (ap (λ (b : Bool). cond b false k.is_faulted) c.if-grows.false)) refl))

pub returns-else-grows-clause-rooms : goal.returns-else-grows-clause-rooms
returns-else-grows-clause-rooms c = λ other differ had found r at kept grow.
    let was = c.args.self.now in
    let e = c.ring_of.ensures in
    let took = room-same c.grows-grows.result _ was.rings c.push.new.self c.if-grows.false
    (of-ok c.push.result (c.push.ensures.overwrites c.if-grows.false) c.push.ensures.nodes) in
    let lists = c.push.ensures.others (ring_number other)
    (not-ring c.args.id other c.ring_of.result e differ) in
    let known = had found r at
    (subst (λ (vs : List ring.Version). RingKept vs found r) lists kept) grow in
    (known.0, omega (arith, took, known.1))
