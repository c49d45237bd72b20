use Rattle.std.proofs.Common.{sym}
use Rattle.version_rings.specs.Inside.Seen.{space}
use Rattle.version_rings.specs.Inside.Table.{rings_of}
use Rattle.version_rings.proofs.Seeing.{all-within}
use Rattle.version_rings.proofs.rings.Rings.read_at.Goals as goal

pub read_at-requires : goal.read_at-requires
read_at-requires c = all-within (space c.self.inside.nodes) (rings_of c.self.inside.rings)
    c.args.id.place c.in_ok-ring.ring c.self.invariant (sym c.in_ok-ring.ensures)
