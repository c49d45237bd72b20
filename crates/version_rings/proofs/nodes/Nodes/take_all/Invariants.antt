use Rattle.std.proofs.Common.{◌≡◌, ◌-◌}
use Rattle.version_rings.specs.Inside.Nodes.{all_emptied, CanEmpty}
use Rattle.version_rings.specs.Inside.Seen.{space}
use Rattle.version_rings.proofs.nodes.Nodes.take_all.Given as goal

-- to empty what is left leads to what emptying all leads to
abbrev pub invariant-loop-done : goal.invariant-loop-done
invariant-loop-done l = record {
  can : CanEmpty (l.count - l._done) l.place (space l.self);
  same : all_emptied (l.count - l._done) l.place (space l.self)
      ≡ all_emptied l.count l.newest (space l.initial.self);
}
