use Rattle.std.proofs.Common.{arith}
use Rattle.version_rings.proofs.Parts.{nodes-length}
use Rattle.version_rings.proofs.node_list.NodeList.len.Goals as goal

pub overflow_cast-result : goal.overflow_cast-result
overflow_cast-result c =
    let l = c.args.self.now in
    omega (arith, c.len.ensures, l.fits, l.few)

pub returns : goal.returns
returns c =
    let l = c.args.self.now in
    let js = l.joints.items in
    let cs = l.contents.items in
    let us = l.uppers.items in
    omega (arith, c.len.ensures, nodes-length js cs us)
