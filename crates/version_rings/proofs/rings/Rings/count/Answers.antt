use Rattle.std.proofs.Common.{sym, ap, ◌∙◌, length}
use Rattle.version_rings.specs.Inside.Seen.{space, room}
use Rattle.version_rings.specs.Inside.Table.{rings_of}
use Rattle.version_rings.proofs.Calls.{seen-some}
use Rattle.version_rings.proofs.Seeing.{as-many-versions}
use Rattle.version_rings.proofs.rings.Rings.count.Goals as goal

pub returns-in-Some : goal.returns-in-Some
returns-in-Some c =
    let s = space c.self.inside.nodes in
    as-many-versions s c.in-Some.ring
    ∙ sym (ap length
    (seen-some (room c.self.inside.nodes) s (rings_of c.self.inside.rings) c.args.self.now c.args.id
    c.in-Some.ring c.self.view_is (sym c.in-Some.ensures)))
