use Rattle.std.proofs.Common.{arith}
use Rattle.version_rings.proofs.Parts.{node-push}
use Rattle.version_rings.proofs.node_list.NodeList.push_reserved.Goals as goal

pub returns-clause-nodes : goal.returns-clause-nodes
returns-clause-nodes c =
    let l = c.args.self.now in
    let js = l.joints.items in
    let cs = l.contents.items in
    let us = l.uppers.items in
    node-push js c.put.new.self.items cs c.put-2.new.self.items us
    c.put_upper.new.uppers.items c.len-place.result c.upper_half.result c.lower_half.result
    c.args.node c.put.ensures.items c.put-2.ensures.items l.even
    (omega (arith, c.len-place.ensures)) c.upper_half.ensures c.lower_half.ensures
    c.put_upper.ensures.here c.put_upper.ensures.others
