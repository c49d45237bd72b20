use Rattle.std.proofs.Common.{ap, ◌∙◌, ◌+◌, arith}
use Rattle.version_rings.specs.Rings.{Rings, all_kept}
use Rattle.version_rings.specs.Inside.Listed.{nodes_listed}
use Rattle.version_rings.specs.Inside.Table.{rings_of}
use Rattle.version_rings.proofs.Seeing.{versions-counted}
use Rattle.version_rings.proofs.rings.Rings.slots.Goals as goal

pub returns-clause-counted : goal.returns-clause-counted
returns-clause-counted c =
    let nodes = c.self.inside.nodes in
    let kept = versions-counted (nodes_listed nodes.list) (rings_of c.self.inside.rings) in
    omega (arith, c.len.ensures, c.self.invariant.counted, kept)
    ∙ ap (λ (r : Rings). r.free + all_kept r.lists) c.self.view_is
