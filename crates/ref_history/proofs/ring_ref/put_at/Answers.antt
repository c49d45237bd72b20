use Rattle.std.proofs.Common.{◌≡◌, ◌<◌, ◌++◌, ◌∷◌, [], None, Some, length, ap, ◌∙◌, arith, cond, Bool}
use Rattle.ref_history.specs.Rung.{RingRefs, ref_at, reserved_in, room_for}
use Rattle.ref_history.proofs.Ringed.{pushed-none, reserved-none, reserved-set}
use Rattle.ref_history.proofs.ring_ref.put_at.Goals as goal

pub loop-refs-preserved : goal.loop-refs-preserved
loop-refs-preserved c =
    let e = c.put.ensures.items
    ∙ ap (λ (xs : RingRefs). xs ++ None ∷ []) c.reserve.ensures.items in
    let was = c.loop-refs.refs.items in
    record {
      same = λ n. ap (λ (xs : RingRefs). ref_at xs n) e ∙ pushed-none was n ∙ c.loop-refs.invariant.same
          n;
      fewer = ap reserved_in e ∙ reserved-none was ∙ c.loop-refs.invariant.fewer;
    }

pub returns-clause-fewer : goal.returns-clause-fewer
returns-clause-fewer c = λ no.
    let was = c.loop-refs.refs.items in
    let within : c.args.place < length was =
    omega (arith, c.loop-refs-test.false, c.len.ensures) in
    let set = reserved-set was c.set.new.self.items c.args.place (Some c.args.kept)
    c.set.ensures.items within in
    let none : room_for (Some c.args.kept) ≡ 0 = ap (λ (b : Bool). cond b 1 0) no in
    omega (arith, set, none, c.loop-refs.invariant.fewer)
