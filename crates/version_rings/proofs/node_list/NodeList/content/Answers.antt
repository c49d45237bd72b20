use Rattle.std.proofs.Common.{arith}
use Rattle.version_rings.proofs.Parts.{nodes-length, content-there}
use Rattle.version_rings.proofs.node_list.NodeList.content.Goals as goal

pub at-requires : goal.at-requires
at-requires c =
    let l = c.args.self.now in
    let js = l.joints.items in
    let cs = l.contents.items in
    let us = l.uppers.items in
    omega (arith, c.requires, nodes-length js cs us, l.even)

pub returns : goal.returns
returns c =
    let l = c.args.self.now in
    let js = l.joints.items in
    let cs = l.contents.items in
    let us = l.uppers.items in
    content-there js cs us c.args.place c.at.result.now l.even c.requires c.at.ensures
