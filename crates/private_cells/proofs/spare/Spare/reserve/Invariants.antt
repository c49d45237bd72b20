use Rattle.std.proofs.Common.{◌+◌, ◌-◌, ◌<◌, ◌≤◌, ◌^◌, length}
use Rattle.private_cells.proofs.spare.Spare.reserve.Given as goal

abbrev pub invariant-loop-self : goal.invariant-loop-self
invariant-loop-self l =
    (length l.fn.self.nodes ≤ length l.self.nodes) × (l.sent + length l.self.nodes < 2 ^ 63)

abbrev pub decreases-loop-self : goal.decreases-loop-self
decreases-loop-self l = l.sends - length l.self.nodes
