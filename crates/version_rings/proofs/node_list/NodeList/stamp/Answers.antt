use Rattle.std.proofs.Common.{◌∙◌, arith}
use Rattle.version_rings.proofs.Parts.{nodes-length, stamp-there}
use Rattle.version_rings.proofs.node_list.NodeList.stamp.Goals as goal

pub at-requires : goal.at-requires
at-requires c =
    let l = c.args.self.now in
    let js = l.joints.items in
    let cs = l.contents.items in
    let us = l.uppers.items in
    omega (arith, c.requires, nodes-length js cs us)

pub returns : goal.returns
returns c =
    let l = c.args.self.now in
    let js = l.joints.items in
    let cs = l.contents.items in
    let us = l.uppers.items in
    c.joined.ensures
    ∙ stamp-there js cs us c.args.place c.upper_at.result c.at.result.now c.requires
    c.at.ensures
    c.upper_at.ensures
