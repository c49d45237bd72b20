use Rattle.std.proofs.Common.{arith}
use Rattle.version_rings.proofs.Parts.{nodes-length}
use Rattle.version_rings.proofs.nodes.Nodes.empty.Goals as goal

pub overflow_add-self : goal.overflow_add-self
overflow_add-self c =
    let l = c.args.self.now.list in
    omega (
      arith,
      c.requires.fits,
      l.fits,
      l.few,
      nodes-length l.joints.items l.contents.items l.uppers.items,
    )
