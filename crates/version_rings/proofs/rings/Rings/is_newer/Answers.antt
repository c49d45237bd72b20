use Rattle.std.proofs.Common.{sym, ap, ◌∙◌, ℕ}
use Rattle.std.specs.Prelude.{nat_lt}
use Rattle.version_rings.specs.Versions.{is_newer}
use Rattle.version_rings.specs.Inside.Seen.{space, room}
use Rattle.version_rings.specs.Inside.Table.{rings_of}
use Rattle.version_rings.proofs.Calls.{seen-some}
use Rattle.version_rings.proofs.Seeing.{newest-within, newest-first}
use Rattle.version_rings.proofs.rings.Rings.is_newer.Goals as goal

pub stamp-requires : goal.stamp-requires
stamp-requires c = newest-within (space c.self.inside.nodes) (rings_of c.self.inside.rings)
    c.args.id.place c.in-Some.ring c.self.invariant (sym c.in-Some.ensures)

pub returns-in-Some : goal.returns-in-Some
returns-in-Some c =
    let s = space c.self.inside.nodes in
    let rings = (rings_of c.self.inside.rings) in
    let first = newest-first s rings c.args.id.place c.in-Some.ring
    c.self.invariant (sym c.in-Some.ensures) in
    ap (λ (n : ℕ). nat_lt c.args.point n) c.stamp.ensures
    ∙ sym (ap (is_newer c.args.point)
    (seen-some (room c.self.inside.nodes) s rings c.args.self.now c.args.id c.in-Some.ring
    c.self.view_is
    (sym c.in-Some.ensures)
    ∙ first.1))
