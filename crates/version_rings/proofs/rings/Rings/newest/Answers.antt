use Rattle.std.proofs.Common.{sym, ap, ◌∙◌, Some}
use Rattle.value_data.specs.Inside.View.{view}
use Rattle.value_data.specs.declared.value.Value.{Value}
use Rattle.version_rings.specs.Versions.{newest}
use Rattle.version_rings.specs.Inside.Seen.{space, room}
use Rattle.version_rings.specs.Inside.Table.{rings_of}
use Rattle.version_rings.proofs.Calls.{seen-some}
use Rattle.version_rings.proofs.Seeing.{newest-within, newest-first}
use Rattle.version_rings.proofs.rings.Rings.newest.Goals as goal

pub content-requires : goal.content-requires
content-requires c = newest-within (space c.self.inside.nodes) (rings_of c.self.inside.rings)
    c.args.id.place c.in_ok-ring.ring c.self.invariant (sym c.in_ok-ring.ensures)

pub returns : goal.returns
returns c =
    let s = space c.self.inside.nodes in
    let rings = (rings_of c.self.inside.rings) in
    let first = newest-first s rings c.args.id.place c.in_ok-ring.ring
    c.self.invariant (sym c.in_ok-ring.ensures) in
    ap (λ (v : Value). Some (view v)) c.content.ensures
    ∙ sym (ap newest
    (seen-some (room c.self.inside.nodes) s rings c.args.self.now c.args.id c.in_ok-ring.ring
    c.self.view_is
    (sym c.in_ok-ring.ensures)
    ∙ first.1))
