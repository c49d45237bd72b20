-- The code stands for a tenant that is served alone.
use Rattle.std.specs.Prelude.{◌≡◌, Some}
use Rattle.server_rules.specs.Ground.{Ground}
use Rattle.server_rules.specs.Machine.World.{TenantData, World}
use Rattle.server_rules.specs.Grounds.{IsRight}
use Rattle.server_rules.specs.Inside.Turned.{LeftToDo}
use Rattle.server_rules.specs.LoneTurns.{LoneTenant}
use Rattle.repl_core.specs.Grounds.{Evaluates}
use Rattle.repl_core.specs.Going.{AreWalkedIn}
use Rattle.repl_core.specs.Left.{left_at}
use Rattle.repl_core.specs.Standing as machine
use Rattle.repl_core.specs.Standing.{open_in, store_in}
use Rattle.machine_runs.specs.declared.runner.Runner.{Runner}

abbrev pub work_left : Runner → LeftToDo
work_left r = left_at 0 r.machine

abbrev pub tenant_data_of : LoneTenant → TenantData
tenant_data_of l = record { state = l.state; mine = l.store.mine }

-- it is the first tenant of a server
pub record RunnerStands (g : Ground) (r : Runner) (l : LoneTenant) : Type 0 where
  pub right : IsRight g
  pub ground : Evaluates g
  pub world : World
  pub machine : machine.MachineStands g r.machine world
  pub there : open_in 0 world ≡ Some (tenant_data_of l)
  pub store : l.store ≡ store_in world.around 0 l.store.mine
  pub walked : AreWalkedIn r.walks (open_in 0 world)
