use Rattle.std.proofs.Common.{◌∙◌, sym, ap, subst, ◌-◌, ◌+◌}
use Rattle.version_rings.specs.Inside.Nodes.{Space, CanEmpty, all_emptied}
use Rattle.version_rings.specs.Inside.Seen.{space}
use Rattle.version_rings.proofs.Places.{empty-here, empty-left, emptied-left}
use Rattle.version_rings.proofs.nodes.Nodes.take_all.Goals as goal

pub loop-done-preserved : goal.loop-done-preserved
loop-done-preserved c =
    let s = space c.loop-done.self in
    let older = c.older-older.result in
    let left = c.args.count - (c.loop-done._done + 1) in
    record {
      can = subst (λ (t : Space). CanEmpty left older t) (sym c.empty.ensures)
          (empty-left s c.args.count c.loop-done._done c.loop-done.place older
          c.loop-done-test.true c.loop-done.invariant.can c.older-older.ensures);
      same = ap (all_emptied left older) c.empty.ensures
          ∙ emptied-left s c.args.count c.loop-done._done c.loop-done.place older
          c.loop-done-test.true c.older-older.ensures
          ∙ c.loop-done.invariant.same;
    }

pub older-older-requires : goal.older-older-requires
older-older-requires c = (empty-here (space c.loop-done.self) c.args.count c.loop-done._done
    c.loop-done.place c.loop-done-test.true c.loop-done.invariant.can).0

pub empty-requires-clause-within : goal.empty-requires-clause-within
empty-requires-clause-within c = (empty-here (space c.loop-done.self) c.args.count
    c.loop-done._done c.loop-done.place c.loop-done-test.true c.loop-done.invariant.can).0

pub empty-requires-clause-fits : goal.empty-requires-clause-fits
empty-requires-clause-fits c = (empty-here (space c.loop-done.self) c.args.count
    c.loop-done._done c.loop-done.place c.loop-done-test.true c.loop-done.invariant.can).1
