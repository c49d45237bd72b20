use Rattle.std.proofs.Common.{refl, ap, ◌∙◌, not}
use Rattle.value_data.specs.Inside.View.{view}
use Rattle.version_rings.specs.Versions.{at_point}
use Rattle.version_rings.specs.Rings.{versions}
use Rattle.version_rings.specs.declared.node.RingId.{RingId}
use Rattle.ref_history.specs.Rung.{versions_of, ring_number}
use Rattle.ref_history.proofs.Placed.{on_some}
use Rattle.ref_history.proofs.Ringed.{read-kept, stands-for, not-absent-in, found-again, not-found}
use Rattle.ref_history.proofs.ring_history.RingHistoryHistory.read_at.Goals as goal

pub returns-then-is_none : goal.returns-then-is_none
returns-then-is_none c =
    let was = c.args.self.now in
    let k = c.in_ok-kept.field-0 in (
      (refl, λ _. tt, c.fault.ensures),
      record {
        noted = tt;
        value = λ r s.
            not-found (λ v. view v.now) c.read_at.result
            (c.is_none.ensures ∙ ap not c.if-is_none.true)
            ∙ c.read_at.ensures
            ∙ ap (λ (x : RingId). at_point c.args.point (versions was.rings x)) c.ring_of.ensures
            ∙ read-kept (versions_of was.rings c.args.id) k r c.args.point
            (stands-for was.rings was.refs.items c.args.id k r c.in_ok-kept.ensures s);
        absent = λ none. refl;
      },
    )

pub returns : goal.returns
returns c =
    let was = c.args.self.now in
    let k = c.in_ok-kept.field-0 in
    let read = λ (x : RingId). at_point c.args.point (versions was.rings x) in
    let there = found-again (λ v. view v.now) c.read_at.result c.read_at-2.result
    (read (ring_number c.args.id))
    (c.is_none.ensures ∙ ap not c.if-is_none.false)
    (c.read_at.ensures ∙ ap read c.ring_of.ensures)
    (c.read_at-2.ensures ∙ ap read c.ring_of-2.ensures) in (
      (
        refl,
        λ _. tt,
        on_some _ (λ v. view v.now) c.read_at-2.result there (λ id r. (λ s. s, λ s. s)),
      ),
      record {
        noted = tt;
        value = λ r s.
            c.read_at-2.ensures ∙ ap read c.ring_of-2.ensures
            ∙ read-kept (versions_of was.rings c.args.id) k r c.args.point
            (stands-for was.rings was.refs.items c.args.id k r c.in_ok-kept.ensures s);
        absent = λ none. absurd
            (not-absent-in was.rings was.refs.items c.args.id k c.in_ok-kept.ensures none);
      },
    )
