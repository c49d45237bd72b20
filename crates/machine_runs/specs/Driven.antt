-- What a list of turns comes to.
use Rattle.std.specs.Prelude.{◌≡◌, ℕ, ◌==◌, List, [], ◌++◌, if◌then◌else◌}
use Rattle.server_rules.specs.Ground.{Ground}
use Rattle.server_rules.specs.Machine.Turns.{Turn, whose, turn_step, world_after, serve}
use Rattle.server_rules.specs.Machine.Turns as rules
use Rattle.server_rules.specs.Machine.World.{World}
use Rattle.repl_core.specs.Driving.{world_after_all, with_refusal, refusals}
use Rattle.machine_runs.specs.Driver.{DriverStands}
use Rattle.machine_runs.specs.Turns.{drained_of, refused_in}
use Rattle.machine_runs.specs.declared.driver.Driver.{Driver}
use Rattle.machine_runs.specs.declared.outputs.Outputs.{Outputs}

-- each tenant was given what the turns serve it, and the turns noted are those that are refused
pub record IsDriven (g : Ground) (w : World) (turns : List Turn) (o : Outputs) : Type 0 where
  pub served : (t : ℕ) → drained_of o t ≡ serve g w turns t
  pub refused : refused_in o ≡ refusals g w 0 turns

-- and the server is the one behind them
pub record Drives (g : Ground) (w : World) (turns : List Turn) (d : Driver) (o : Outputs)
    : Type 0 where
  pub stands : DriverStands g d (world_after_all g w turns)
  pub is : IsDriven g w turns o

-- one turn more, at this place
pub record MakesTurn (g : Ground) (w : World) (place : ℕ) (turn : Turn) (d : Driver)
    (old new : Outputs)
    : Type 0 where
  pub stands : DriverStands g d (world_after g w turn)
  pub served : (t : ℕ) → drained_of new t ≡ drained_of old t
      ++ (if t == whose turn then rules.bytes_given (turn_step g w turn) else [])
  pub refused : refused_in new ≡ refused_in old ++ with_refusal place (turn_step g w turn) []
