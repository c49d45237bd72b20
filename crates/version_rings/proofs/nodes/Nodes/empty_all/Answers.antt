use Rattle.std.proofs.Common.{◌∙◌, sym, ap, subst, ◌-◌, ◌+◌}
use Rattle.version_rings.specs.Inside.Nodes.{Space, CanEmpty, all_emptied}
use Rattle.version_rings.specs.Inside.Seen.{space}
use Rattle.version_rings.proofs.Places.{empty-left, emptied-left}
use Rattle.version_rings.proofs.nodes.Nodes.empty_all.Goals as goal

pub loop-done-preserved : goal.loop-done-preserved
loop-done-preserved c =
    let s = space c.loop-done.self in
    let older = c.older-older.result in
    let left = c.args.count - (c.loop-done._done + 1) in
    record {
      can = subst (λ (t : Space). CanEmpty left older t) (sym c.empty.ensures)
          (empty-left s c.args.count c.loop-done._done c.loop-done.place older
          c.loop-done-test.true c.loop-done.invariant.can c.older-older.ensures);
      same = ap (all_emptied left older) c.empty.ensures
          ∙ emptied-left s c.args.count c.loop-done._done c.loop-done.place older
          c.loop-done-test.true c.older-older.ensures
          ∙ c.loop-done.invariant.same;
    }
