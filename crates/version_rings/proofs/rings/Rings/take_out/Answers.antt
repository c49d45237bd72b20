use Rattle.std.proofs.Common.{sym, ap, ◌∙◌, ◌+◌, length}
use Rattle.version_rings.specs.Rings.{Rings, versions}
use Rattle.version_rings.specs.Inside.Nodes.{Space}
use Rattle.version_rings.specs.Inside.Table.{rings_of}
use Rattle.version_rings.specs.Inside.Seen.{space, room}
use Rattle.version_rings.proofs.Calls.{let-go, gone-becomes, seen-others, seen-some}
use Rattle.version_rings.proofs.Seeing.{as-many-versions}
use Rattle.version_rings.proofs.rings.Rings.take_out.Goals as goal

pub take_all-requires : goal.take_all-requires
take_all-requires c = (let-go (space c.self.inside.nodes) (rings_of c.self.inside.rings)
    (rings_of c.try_remove.new.self) c.args.id.place c.in-Some.ring c.self.invariant
    (sym c.in-Some.ensures.value) c.in-Some.ensures.changed
    c.in-Some.ensures.others).can

pub invariant_of-self : goal.invariant_of-self
invariant_of-self c = (gone-becomes (space c.self.inside.nodes) (space c.take_all.new.self)
    (rings_of c.self.inside.rings) (rings_of c.try_remove.new.self) c.args.id.place c.in-Some.ring
    c.self.invariant (sym c.in-Some.ensures.value) c.in-Some.ensures.changed
    c.in-Some.ensures.others c.take_all.ensures).sound

pub returns-in-Some-clause-others : goal.returns-in-Some-clause-others
returns-in-Some-clause-others c =
    seen-others (room c.self.inside.nodes) (room c.take_all.new.self) (space c.self.inside.nodes)
    (space c.take_all.new.self)
    (rings_of c.self.inside.rings) (rings_of c.try_remove.new.self) c.args.self.now c.args.id _
    c.self.view_is
    (gone-becomes (space c.self.inside.nodes) (space c.take_all.new.self)
    (rings_of c.self.inside.rings) (rings_of c.try_remove.new.self) c.args.id.place c.in-Some.ring
    c.self.invariant (sym c.in-Some.ensures.value) c.in-Some.ensures.changed
    c.in-Some.ensures.others c.take_all.ensures)

pub returns-in-Some-clause-slots : goal.returns-in-Some-clause-slots
returns-in-Some-clause-slots c =
    ap (λ (s : Space). length s.nodes) c.take_all.ensures
    ∙ (let-go (space c.self.inside.nodes) (rings_of c.self.inside.rings)
    (rings_of c.try_remove.new.self) c.args.id.place c.in-Some.ring c.self.invariant
    (sym c.in-Some.ensures.value) c.in-Some.ensures.changed
    c.in-Some.ensures.others).many
    ∙ ap (λ (r : Rings). r.slots) c.self.view_is

pub returns-in-Some-clause-free : goal.returns-in-Some-clause-free
returns-in-Some-clause-free c =
    let s = space c.self.inside.nodes in
    ap (λ (s : Space). s.free) c.take_all.ensures
    ∙ (let-go s (rings_of c.self.inside.rings)
    (rings_of c.try_remove.new.self) c.args.id.place c.in-Some.ring c.self.invariant
    (sym c.in-Some.ensures.value) c.in-Some.ensures.changed
    c.in-Some.ensures.others).free
    ∙ ap (λ n. s.free + n) (as-many-versions s c.in-Some.ring
    ∙ sym (ap length
    (seen-some (room c.self.inside.nodes) s (rings_of c.self.inside.rings) c.args.self.now c.args.id
    c.in-Some.ring c.self.view_is (sym c.in-Some.ensures.value))))
    ∙ ap (λ (r : Rings). r.free + length (versions c.args.self.now c.args.id))
    c.self.view_is
