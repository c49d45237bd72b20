use Rattle.std.proofs.Common.{◌∙◌}
use Rattle.version_rings.specs.Inside.Listed.{nodes_listed}
use Rattle.version_rings.proofs.Places.{within-left, read-left}
use Rattle.version_rings.proofs.nodes.Nodes.read_at.Goals as goal

pub loop-passed-preserved : goal.loop-passed-preserved
loop-passed-preserved c =
    let ns = nodes_listed c.args.self.now.list in
    record {
      within = within-left ns c.args.count c.loop-passed._passed c.loop-passed.place c.older-place.result
          c.loop-passed-test.true c.loop-passed.invariant.within c.older-place.ensures;
      same = read-left ns c.args.count c.loop-passed._passed c.loop-passed.place c.older-place.result
          c.args.point c.stamp.result c.loop-passed-test.true c.older-place.ensures c.stamp.ensures
          c.if-stamp-point.false
          ∙ c.loop-passed.invariant.same;
    }
