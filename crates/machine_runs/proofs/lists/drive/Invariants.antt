use Rattle.std.proofs.Common.{◌≡◌, take, map, []}
use Rattle.server_rules.specs.Ground.{Ground}
use Rattle.server_rules.specs.Machine.World.{opened_world}
use Rattle.repl_core.specs.Configured.{IsConfigured}
use Rattle.machine_runs.specs.Driven.{Drives}
use Rattle.machine_runs.specs.Turns.{turn_view}
use Rattle.machine_runs.proofs.lists.drive.Given as goal

abbrev pub invariant-loop-turn : goal.invariant-loop-turn
invariant-loop-turn l = record {
  place : l.place ≡ l.turn-index;
  drives : (g : Ground) → IsConfigured g l.fn.config
      → Drives g (opened_world g) (map turn_view (take l.turn-index l.turns)) l.driver l.outputs;
}
