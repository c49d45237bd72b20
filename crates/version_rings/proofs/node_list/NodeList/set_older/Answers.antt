use Rattle.std.proofs.Common.{◌∙◌, ap, arith, List}
use Rattle.version_rings.specs.Inside.Parts.{nodes_of}
use Rattle.version_rings.specs.declared.node.Joint.{Joint}
use Rattle.version_rings.proofs.Parts.{nodes-length, older-set}
use Rattle.version_rings.proofs.node_list.NodeList.set_older.Goals as goal

pub at-joint-requires : goal.at-joint-requires
at-joint-requires c =
    let l = c.args.self.now in
    let js = l.joints.items in
    let cs = l.contents.items in
    let us = l.uppers.items in
    omega (arith, c.requires, nodes-length js cs us)

pub set-requires : goal.set-requires
set-requires c =
    let l = c.args.self.now in
    let js = l.joints.items in
    let cs = l.contents.items in
    let us = l.uppers.items in
    omega (arith, c.requires, nodes-length js cs us)

pub returns-clause-nodes : goal.returns-clause-nodes
returns-clause-nodes c =
    let l = c.args.self.now in
    let js = l.joints.items in
    let cs = l.contents.items in
    let us = l.uppers.items in
    ap (λ (xs : List Joint). nodes_of xs cs us) c.set.ensures.items
    ∙ older-set js cs us c.args.place c.args.older c.at-joint.result.now c.requires c.at-joint.ensures
