use Rattle.std.proofs.Common.{sym}
use Rattle.version_rings.specs.Inside.Seen.{space, room}
use Rattle.version_rings.specs.Inside.Table.{rings_of}
use Rattle.version_rings.proofs.Calls.{live-as}
use Rattle.version_rings.proofs.rings.Rings.is_live.Goals as goal

pub returns : goal.returns
returns c =
    let rings = (rings_of c.self.inside.rings) in
    live-as (room c.self.inside.nodes) (space c.self.inside.nodes) rings c.args.self.now c.args.id
    c.get.result c.is_some.result c.self.invariant c.self.view_is (sym c.get.ensures)
    c.is_some.ensures
