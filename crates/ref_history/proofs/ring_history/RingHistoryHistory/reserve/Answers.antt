use Rattle.std.proofs.Common.{◌≡◌, ◌≤◌, arith, ap, sym, ◌∙◌, refl, Some, true, subst}
use Rattle.std.proofs.Common.{List}
use Rattle.std.proofs.Common.{inl, inr}
use Rattle.std.proofs.lemmas.Bool.{cases_eq}
use Rattle.version_rings.specs.Rings.{Rings}
use Rattle.version_rings.specs.Versions as ring
use Rattle.ref_history.specs.Rung.{RingKept, room_for, reserved_in, ref_at}
use Rattle.ref_history.specs.Rung.{versions_of}
use Rattle.ref_history.specs.declared.ring_ref.RingRef.{RingRef}
use Rattle.ref_history.proofs.Standing.{some-same}
use Rattle.ref_history.proofs.Ringed.{same-in, found-there, reserved-set, in-kept, set-here}
use Rattle.ref_history.proofs.Ringed.{set-others}
use Rattle.ref_history.proofs.ring_history.RingHistoryHistory.reserve.Goals as goal

pub invariant_of-self-2 : goal.invariant_of-self-2
invariant_of-self-2 c =
    let was = c.args.self.now in
    let refs = was.refs.items in
    let k = c.in-Some.kept in
    let there = (found-there was.rings refs c.args.id k c.in-Some.ensures) in
    let to : RingRef = record k { has_room = true } in
    let set = reserved-set refs c.set.new.self.items c.args.id.place (Some to) c.set.ensures.items
    (in-kept refs c.args.id.place k there.1) in
    let same = ap room_for there.1 in
    let bound : reserved_in c.set.new.self.items ≤ c.in-Some-reserved_with.wanted =
    omega (arith, set, same, was.counted, c.in-Some-reserved_with.ensures) in
    record { counted = bound }

pub returns-clause-rooms : goal.returns-clause-rooms
returns-clause-rooms c = λ other had found r at kept grow.
    let was = c.args.self.now in
    let refs = was.refs.items in
    let k = c.in-Some.kept in
    let there = (found-there was.rings refs c.args.id k c.in-Some.ensures) in
    let to : RingRef = record k { has_room = true } in
    let set = reserved-set refs c.set.new.self.items c.args.id.place (Some to) c.set.ensures.items
    (in-kept refs c.args.id.place k there.1) in
    let same = ap room_for there.1 in
    let bound : reserved_in c.set.new.self.items ≤ c.in-Some-reserved_with.wanted =
    omega (arith, set, same, was.counted, c.in-Some-reserved_with.ensures) in
    let lists = ap (λ (x : Rings). versions_of x other) c.in_ok-reserve.ensures.same in
    let flagged : found.has_room ≡ true = elim (cases_eq other.place c.args.id.place) [
      | inl same ↦
          sym (ap (λ (x : RingRef). x.has_room) (some-same to found
          (sym (set-here refs c.set.new.self.items c.args.id.place k (Some to) c.set.ensures.items there.1)
          ∙ sym (ap (ref_at c.set.new.self.items) same) ∙ at)))
      | inr differ ↦
          (had found r (sym (set-others refs c.set.new.self.items c.args.id.place (Some to) c.set.ensures.items other.place differ) ∙ at)
          (subst (λ (vs : List ring.Version). RingKept vs found r) lists kept) grow).0
    ] in
    let enough = c.in_ok-reserve.ensures.room in
    (flagged, omega (arith, bound, enough))

pub returns-clause-same : goal.returns-clause-same
returns-clause-same c =
    let was = c.args.self.now in
    let refs = was.refs.items in
    let k = c.in-Some.kept in
    let there = (found-there was.rings refs c.args.id k c.in-Some.ensures) in
    let to : RingRef = record k { has_room = true } in
    same-in was.rings c.reserve.new.self refs c.set.new.self.items c.args.id
    k to c.in-Some.ensures (set-here refs c.set.new.self.items c.args.id.place k (Some to) c.set.ensures.items there.1)
    (λ other. ap (λ (x : Rings). versions_of x other) c.in_ok-reserve.ensures.same)
    (λ n differ. set-others refs c.set.new.self.items c.args.id.place (Some to) c.set.ensures.items n differ) refl refl
