use Rattle.std.proofs.Common.{◌≡◌, ◌<◌, ◌≤◌, true, take}
use Rattle.server_rules.specs.Ground.{Ground}
use Rattle.server_rules.specs.LoneTurns.{LoneTenant}
use Rattle.server_rules.specs.Grounds.{IsRight}
use Rattle.nrepl_pipe.proofs.Taking.{TurnsOn}
use Rattle.nrepl_pipe.proofs.actors.go_each.Given as goal

abbrev pub invariant-loop-actor : goal.invariant-loop-actor
invariant-loop-actor g l = record {
  steps : (g.C.Core.left l.core).steps ≤ (g.C.Core.left l.fn.core).steps;
  used : l.round.uses_step ≡ true
      → (g.C.Core.left l.core).steps < (g.C.Core.left l.fn.core).steps;
  turns : (h : Ground) (q : LoneTenant) → IsRight h → g.C.Core.stands h l.fn.core q
      → TurnsOn h (g.C.Core.stands h l.core) q (take l.actor-index l.actor-items) l.round;
}
