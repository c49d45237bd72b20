-- A driver stands for the server of the rules, with the evaluations of all forms that run.
use Rattle.std.specs.Prelude.{◌≡◌, ◌≢◌, ℕ, List, Option, Vec, Result, IfOk, IfErr}
use Rattle.std.specs.declared.alloc.Global.{Global}
use Rattle.server_rules.specs.Ground.{Ground}
use Rattle.server_rules.specs.Plan.{StepAnswer}
use Rattle.server_rules.specs.Machine.Turns.{Turn, turn_step}
use Rattle.server_rules.specs.Plan.{bytes_in}
use Rattle.server_rules.specs.Machine.World.{World, accepted, refused}
use Rattle.server_rules.specs.declared.refusal.Refusal.{Refusal}
use Rattle.server_rules.specs.Grounds.{IsRight}
use Rattle.repl_core.specs.Grounds.{Evaluates}
use Rattle.repl_core.specs.Standing as machine
use Rattle.repl_core.specs.Standing.{open_in}
use Rattle.machine_runs.specs.Turns.{piece_given}
use Rattle.machine_runs.specs.declared.driver.Driver.{Driver}
use Rattle.machine_runs.specs.AllWalks.{walks_at, IsWalkedAt}

pub record DriverStands (g : Ground) (d : Driver) (w : World) : Type 0 where
  pub right : IsRight g
  pub ground : Evaluates g
  pub machine : machine.MachineStands g d.machine w
  pub walked : (t : ℕ) → IsWalkedAt (walks_at d.kept t) (open_in t w)

-- the turn is accepted and gives these bytes
pub record AcceptsTurn (g : Ground) (w : World) (turn : Turn) (d : Driver)
    (bytes : List ℕ) : Type 0 where
  pub after : World
  pub answer : StepAnswer
  pub accepted : turn_step g w turn ≡ accepted after answer
  pub gives : bytes_in answer ≡ bytes
  pub stands : DriverStands g d after

-- the turn is refused so
pub record RefusesTurn (g : Ground) (w : World) (turn : Turn) (d : Driver)
    (why : Refusal) : Type 0 where
  pub refused : turn_step g w turn ≡ refused why
  pub stands : DriverStands g d w

-- What is promised of a call that makes a turn, for every server for which the driver stood.

-- where it succeeds the turn is accepted, and gives this reply if it gives one
abbrev pub DoesTurn : Turn → Driver → Driver → Result (Option (Vec ℕ Global)) Refusal → Type 0
DoesTurn turn old new result = (g : Ground) (w : World) → DriverStands g old w
    → IfOk result (λ it. AcceptsTurn g w turn new (piece_given it))

-- where it fails the turn is refused so, unless for want of memory
abbrev pub DeclinesTurn : {A : Type 0} → Turn → Driver → Driver → Result A Refusal → Type 0
DeclinesTurn turn old new result = (g : Ground) (w : World) → DriverStands g old w
    → IfErr result (λ why. why ≢ Refusal.NoMemory → RefusesTurn g w turn new why)
