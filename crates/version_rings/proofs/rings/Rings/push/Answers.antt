use Rattle.std.proofs.Common.{sym, ap, ◌∙◌, arith, Bool, true, false}
use Rattle.value_data.specs.Inside.View.{view}
use Rattle.version_rings.specs.Versions.{version, pushed, is_kept}
use Rattle.version_rings.specs.Rings.{versions}
use Rattle.version_rings.specs.Inside.Seen.{space, room}
use Rattle.version_rings.specs.Inside.Table.{rings_of}
use Rattle.version_rings.proofs.Calls.{grew, overwrote, seen-here, seen-others, seen-some}
use Rattle.version_rings.proofs.Calls.{seen-kept, fewer-than-nodes}
use Rattle.version_rings.proofs.Calls.{not-absent, takes-node, nodes-after}
use Rattle.version_rings.proofs.Falling.{falls-on}
use Rattle.version_rings.proofs.Seeing.{newest-within, oldest-within}
use Rattle.version_rings.proofs.Parts.{nodes-length}
use Rattle.version_rings.proofs.rings.Rings.push.Goals as goal

pub put_before-requires-clause-newest : goal.put_before-requires-clause-newest
put_before-requires-clause-newest c =
    newest-within (space c.self.inside.nodes) (rings_of c.self.inside.rings) c.args.id.place
    c.in-Some.ring c.self.invariant (sym c.in-Some.ensures)

pub put_before-requires-clause-oldest : goal.put_before-requires-clause-oldest
put_before-requires-clause-oldest c =
    oldest-within (space c.self.inside.nodes) (rings_of c.self.inside.rings) c.args.id.place
    c.in-Some.ring c.self.invariant (sym c.in-Some.ensures)

pub overwrite_oldest-newest-requires-clause-newest : goal.overwrite_oldest-newest-requires-clause-newest
overwrite_oldest-newest-requires-clause-newest c =
    newest-within (space c.self.inside.nodes) (rings_of c.self.inside.rings) c.args.id.place
    c.in-Some.ring c.self.invariant (sym c.in-Some.ensures)

pub overwrite_oldest-newest-requires-clause-oldest : goal.overwrite_oldest-newest-requires-clause-oldest
overwrite_oldest-newest-requires-clause-oldest c =
    oldest-within (space c.self.inside.nodes) (rings_of c.self.inside.rings) c.args.id.place
    c.in-Some.ring c.self.invariant (sym c.in-Some.ensures)

pub overflow_add-count : goal.overflow_add-count
overflow_add-count c =
    let after = c.put_before.new.self.list in
    let fewer = fewer-than-nodes (space c.self.inside.nodes) (space c.put_before.new.self)
    (rings_of c.self.inside.rings) c.args.id.place c.in-Some.ring c.in-Some.ring.newest
    c.args.stamp c.args.value c.self.invariant (sym c.in-Some.ensures)
    c.in_ok-newest.ensures.put in
    omega (
      arith,
      fewer,
      after.few,
      after.fits,
      nodes-length after.joints.items after.contents.items after.uppers.items,
    )

-- Where one version more is kept

pub invariant_of-self-then-grow : goal.invariant_of-self-then-grow
invariant_of-self-then-grow c =
    (grew (space c.self.inside.nodes) (space c.put_before.new.self) (rings_of c.self.inside.rings)
    (rings_of c.set.new.self)
    c.args.id.place
    c.in_ok-newest.newest c.args.stamp c.args.value c.in-Some.ring c.self.invariant
    (sym c.in-Some.ensures) c.in_ok-newest.ensures.place c.in_ok-newest.ensures.put c.set.ensures).sound

pub returns-in_ok-newest-clause-pushed : goal.returns-in_ok-newest-clause-pushed
returns-in_ok-newest-clause-pushed c =
    let v = version c.args.stamp (view c.args.value) in
    seen-here (room c.put_before.new.self) (space c.self.inside.nodes) (space c.put_before.new.self)
    (rings_of c.self.inside.rings) _ c.args.id _
    (grew (space c.self.inside.nodes) (space c.put_before.new.self) (rings_of c.self.inside.rings)
    (rings_of c.set.new.self)
    c.args.id.place
    c.in_ok-newest.newest c.args.stamp c.args.value c.in-Some.ring c.self.invariant
    (sym c.in-Some.ensures) c.in_ok-newest.ensures.place c.in_ok-newest.ensures.put c.set.ensures)
    ∙ ap (λ vs. pushed true v vs)
    (sym (seen-some (room c.self.inside.nodes) (space c.self.inside.nodes) (rings_of c.self.inside.rings)
    c.args.self.now c.args.id c.in-Some.ring c.self.view_is (sym c.in-Some.ensures)))
    ∙ ap (λ (b : Bool). pushed b v (versions c.args.self.now c.args.id)) (sym c.if-grow.true)

pub returns-in_ok-newest-clause-falling : goal.returns-in_ok-newest-clause-falling
returns-in_ok-newest-clause-falling c =
    falls-on c.args.grow (version c.args.stamp (view c.args.value))
    (versions c.args.self.now c.args.id) _ (returns-in_ok-newest-clause-pushed c)

pub returns-in_ok-newest-clause-others : goal.returns-in_ok-newest-clause-others
returns-in_ok-newest-clause-others c =
    seen-others (room c.self.inside.nodes) (room c.put_before.new.self) (space c.self.inside.nodes)
    (space c.put_before.new.self) (rings_of c.self.inside.rings) _
    c.args.self.now c.args.id _ c.self.view_is
    (grew (space c.self.inside.nodes) (space c.put_before.new.self) (rings_of c.self.inside.rings)
    (rings_of c.set.new.self)
    c.args.id.place
    c.in_ok-newest.newest c.args.stamp c.args.value c.in-Some.ring c.self.invariant
    (sym c.in-Some.ensures) c.in_ok-newest.ensures.place c.in_ok-newest.ensures.put c.set.ensures)

pub returns-in_ok-newest-clause-nodes : goal.returns-in_ok-newest-clause-nodes
returns-in_ok-newest-clause-nodes c =
    nodes-after c.args.grow (is_kept (versions c.args.self.now c.args.id)) c.args.self.now _
    c.if-grow.true
    (seen-kept (room c.self.inside.nodes) (space c.self.inside.nodes) (rings_of c.self.inside.rings)
    c.args.self.now c.args.id
    c.in-Some.ring c.self.invariant c.self.view_is (sym c.in-Some.ensures))
    (takes-node (room c.self.inside.nodes) (room c.put_before.new.self) (space c.self.inside.nodes)
    (space c.put_before.new.self) (rings_of c.self.inside.rings) _
    c.args.self.now c.in-Some.ring.newest c.args.stamp c.args.value c.self.view_is
    c.in_ok-newest.ensures.put c.in_ok-newest.ensures.takes)

pub returns-in_ok-newest-clause-absent : goal.returns-in_ok-newest-clause-absent
returns-in_ok-newest-clause-absent c = λ none. absurd
    (not-absent (room c.self.inside.nodes) (space c.self.inside.nodes) (rings_of c.self.inside.rings)
    c.args.self.now c.args.id
    c.in-Some.ring c.self.invariant c.self.view_is (sym c.in-Some.ensures) none)

pub returns-in_err-newest-clause-absent : goal.returns-in_err-newest-clause-absent
returns-in_err-newest-clause-absent c = λ none. absurd
    (not-absent (room c.self.inside.nodes) (space c.self.inside.nodes) (rings_of c.self.inside.rings)
    c.args.self.now c.args.id
    c.in-Some.ring c.self.invariant c.self.view_is (sym c.in-Some.ensures) none)

-- Where the oldest gives way

pub invariant_of-self-else-grow : goal.invariant_of-self-else-grow
invariant_of-self-else-grow c =
    (overwrote (space c.self.inside.nodes) (space c.overwrite_oldest-newest.new.self)
    (rings_of c.self.inside.rings)
    (rings_of c.set-else-grow.new.self)
    c.args.id.place c.overwrite_oldest-newest.result c.args.stamp c.args.value
    c.in-Some.ring c.self.invariant (sym c.in-Some.ensures)
    c.overwrite_oldest-newest.ensures.oldest c.overwrite_oldest-newest.ensures.written c.set-else-grow.ensures).sound

pub returns-else-grow-clause-pushed : goal.returns-else-grow-clause-pushed
returns-else-grow-clause-pushed c =
    let v = version c.args.stamp (view c.args.value) in
    seen-here (room c.overwrite_oldest-newest.new.self) (space c.self.inside.nodes)
    (space c.overwrite_oldest-newest.new.self) (rings_of c.self.inside.rings) _
    c.args.id _
    (overwrote (space c.self.inside.nodes) (space c.overwrite_oldest-newest.new.self)
    (rings_of c.self.inside.rings)
    (rings_of c.set-else-grow.new.self)
    c.args.id.place c.overwrite_oldest-newest.result c.args.stamp c.args.value
    c.in-Some.ring c.self.invariant (sym c.in-Some.ensures)
    c.overwrite_oldest-newest.ensures.oldest c.overwrite_oldest-newest.ensures.written c.set-else-grow.ensures)
    ∙ ap (λ vs. pushed false v vs)
    (sym (seen-some (room c.self.inside.nodes) (space c.self.inside.nodes) (rings_of c.self.inside.rings)
    c.args.self.now c.args.id c.in-Some.ring c.self.view_is (sym c.in-Some.ensures)))
    ∙ ap (λ (b : Bool). pushed b v (versions c.args.self.now c.args.id)) (sym c.if-grow.false)

pub returns-else-grow-clause-falling : goal.returns-else-grow-clause-falling
returns-else-grow-clause-falling c =
    falls-on c.args.grow (version c.args.stamp (view c.args.value))
    (versions c.args.self.now c.args.id) _ (returns-else-grow-clause-pushed c)

pub returns-else-grow-clause-others : goal.returns-else-grow-clause-others
returns-else-grow-clause-others c =
    seen-others (room c.self.inside.nodes) (room c.overwrite_oldest-newest.new.self)
    (space c.self.inside.nodes) (space c.overwrite_oldest-newest.new.self) (rings_of c.self.inside.rings) _
    c.args.self.now c.args.id _ c.self.view_is
    (overwrote (space c.self.inside.nodes) (space c.overwrite_oldest-newest.new.self)
    (rings_of c.self.inside.rings)
    (rings_of c.set-else-grow.new.self)
    c.args.id.place c.overwrite_oldest-newest.result c.args.stamp c.args.value
    c.in-Some.ring c.self.invariant (sym c.in-Some.ensures)
    c.overwrite_oldest-newest.ensures.oldest c.overwrite_oldest-newest.ensures.written c.set-else-grow.ensures)

pub returns-else-grow-clause-absent : goal.returns-else-grow-clause-absent
returns-else-grow-clause-absent c = λ none. absurd
    (not-absent (room c.self.inside.nodes) (space c.self.inside.nodes) (rings_of c.self.inside.rings)
    c.args.self.now c.args.id
    c.in-Some.ring c.self.invariant c.self.view_is (sym c.in-Some.ensures) none)
