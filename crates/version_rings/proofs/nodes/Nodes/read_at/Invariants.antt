use Rattle.std.proofs.Common.{◌≡◌, ◌-◌}
use Rattle.version_rings.specs.Versions.{at_point}
use Rattle.version_rings.specs.Inside.Nodes.{versions_from, IsChainWithin}
use Rattle.version_rings.specs.Inside.Listed.{nodes_listed}
use Rattle.version_rings.proofs.nodes.Nodes.read_at.Given as goal

-- what is read of the versions that are left is what is read of all
abbrev pub invariant-loop-passed : goal.invariant-loop-passed
invariant-loop-passed l = record {
  within : IsChainWithin (nodes_listed l.self.list) (l.count - l._passed) l.place;
  same : at_point l.point (versions_from (nodes_listed l.self.list) (l.count - l._passed) l.place)
      ≡ at_point l.point (versions_from (nodes_listed l.self.list) l.count l.newest);
}
