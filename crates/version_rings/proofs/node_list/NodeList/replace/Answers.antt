use Rattle.std.proofs.Common.{◌∙◌, ap, ap₂, arith, length, List}
use Rattle.std.proofs.lemmas.List.{length-set}
use Rattle.value_data.specs.declared.value.Value.{Value}
use Rattle.version_rings.specs.Inside.Parts.{nodes_of}
use Rattle.version_rings.specs.declared.node.Joint.{Joint}
use Rattle.version_rings.proofs.Parts.{nodes-length, in-joints, node-set}
use Rattle.version_rings.proofs.node_list.NodeList.replace.Goals as goal

pub put_upper-requires : goal.put_upper-requires
put_upper-requires c =
    let l = c.args.self.now in
    let js = l.joints.items in
    let cs = l.contents.items in
    let us = l.uppers.items in
    omega (arith, c.requires, nodes-length js cs us, l.fits, l.uppers_fit)

pub set-requires : goal.set-requires
set-requires c =
    let l = c.args.self.now in
    let js = l.joints.items in
    let cs = l.contents.items in
    let us = l.uppers.items in
    omega (arith, c.requires, nodes-length js cs us)

pub replace-requires : goal.replace-requires
replace-requires c =
    let l = c.args.self.now in
    let js = l.joints.items in
    let cs = l.contents.items in
    let us = l.uppers.items in
    omega (arith, c.requires, nodes-length js cs us, l.even)

pub invariant_of-self : goal.invariant_of-self
invariant_of-self c =
    let l = c.args.self.now in
    let js = l.joints.items in
    let cs = l.contents.items in
    let us = l.uppers.items in
    let i = c.args.place in
    let within = in-joints js cs us i c.requires in
    let joints = ap length c.set.ensures.items in
    let joints-same = length-set js i (record {
      lower = c.lower_half.result;
      older = c.args.node.older;
      newer = c.args.node.newer;
    }) in
    let contents = ap length c.replace.ensures.items in
    let contents-same = length-set cs i c.args.node.content in
    record {
      few = l.few;
      even = omega (arith, joints, joints-same, contents, contents-same, l.even);
      fewer = omega (
        arith,
        c.put_upper.ensures.few (length js) within l.fewer,
        joints,
        joints-same,
      );
      fits = omega (arith, l.fits, joints, joints-same);
      joints_fit = omega (arith, l.joints_fit, joints, joints-same, c.set.ensures.room);
      contents_fit = omega (
        arith,
        l.contents_fit,
        contents,
        contents-same,
        c.replace.ensures.room,
      );
      uppers_fit = omega (arith, l.uppers_fit, c.put_upper.ensures.fitting);
    }

pub returns-clause-nodes : goal.returns-clause-nodes
returns-clause-nodes c =
    let l = c.args.self.now in
    let js = l.joints.items in
    let cs = l.contents.items in
    let us = l.uppers.items in
    ap₂ (λ (xs : List Joint) (ys : List Value). nodes_of xs ys c.put_upper.new.uppers.items)
    c.set.ensures.items c.replace.ensures.items
    ∙ node-set js cs us c.put_upper.new.uppers.items c.args.place c.upper_half.result
    c.lower_half.result c.args.node l.even c.requires c.upper_half.ensures c.lower_half.ensures
    c.put_upper.ensures.here c.put_upper.ensures.others
