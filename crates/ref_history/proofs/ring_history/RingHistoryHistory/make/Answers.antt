use Rattle.ref_history.specs.Rung.{ring_number}
use Rattle.std.proofs.Common.{sym, ◌∙◌}
use Rattle.ref_history.proofs.Ringed.{same-others, same-all, all-refs, back-again, of-err}
use Rattle.ref_history.proofs.Ringed.{other-ring}
use Rattle.ref_history.proofs.ring_history.RingHistoryHistory.make.Goals as goal

pub returns-then-is_err-clause-as_it_was : goal.returns-then-is_err-clause-as_it_was
returns-then-is_err-clause-as_it_was c =
    let was = c.args.self.now in
    same-all was.rings c.release.new.self was.refs.items c.put_at.new.refs.items
    (λ other. back-again was.rings c.new_ring.new.self c.release.new.self c.in_ok-ring.ring
    c.in_ok-ring.ensures.is_new c.release.ensures.gone c.in_ok-ring.ensures.others
    c.release.ensures.others (ring_number other))
    (all-refs was.refs.items c.put_at.new.refs.items c.in_ok-ring.ring.place
    (of-err c.put_at.result (sym c.is_err.ensures.value ∙ c.if-is_err.true) c.put_at.ensures.same)
    c.put_at.ensures.others)

pub returns-clause-others : goal.returns-clause-others
returns-clause-others c =
    let was = c.args.self.now in
    same-others was.rings c.new_ring.new.self was.refs.items c.put_at.new.refs.items
    (record { place = c.in_ok-ring.ring.place })
    (λ other differ. c.in_ok-ring.ensures.others (ring_number other)
    (other-ring other c.in_ok-ring.ring differ))
    c.put_at.ensures.others
