-- Turns: lists of them are every interleaving of the tenants' steps, and what they serve each.
use Rattle.std.specs.Prelude.{ℕ, ◌==◌, List, [], ◌∷◌, ◌++◌, Option, option_map}
use Rattle.std.specs.Prelude.{if◌then◌else◌}
use Rattle.ref_table.specs.Numbered.{part_under}
use Rattle.server_rules.specs.Ground.{Ground}
use Rattle.server_rules.specs.Tenant.{TenantState}
use Rattle.server_rules.specs.Plan.{bytes_in}
use Rattle.server_rules.specs.Honest.{honest_deed}
use Rattle.server_rules.specs.Machine.World.{TenantData, World, Step, opens, does, closes, Stepped}
use Rattle.server_rules.specs.Machine.World.{accepted, refused, step, world_or}
use Rattle.server_rules.specs.declared.actor.Actor.{Actor}

-- a step as it is given, or an actor goes on as its evaluation says
pub data Turn : Type 0 where
  given : Step → Turn
  goes : ℕ → Actor → Turn

abbrev pub whose_step : Step → ℕ
whose_step (opens t) = t
whose_step (does t d) = t
whose_step (closes t) = t

abbrev pub whose : Turn → ℕ
whose (given s) = whose_step s
whose (goes t a) = t

abbrev pub tenant_state_of : Option TenantData → Option TenantState
tenant_state_of = option_map (λ tenant. tenant.state)

-- Runs of turns

abbrev pub step_of : Ground → World → Turn → Step
step_of g w (given s) = s
step_of g w (goes t a) = does t (honest_deed g a (option_map tenant_state_of (part_under t w.tenants)))

abbrev pub turn_step : Ground → World → Turn → Stepped
turn_step g w turn = step g w (step_of g w turn)

abbrev pub world_after : Ground → World → Turn → World
world_after g w turn = world_or w (turn_step g w turn)

abbrev pub bytes_given : Stepped → List ℕ
bytes_given (accepted w answer) = bytes_in answer
bytes_given (refused why) = []

-- what a tenant is given, from a state on: the replies that it takes out, joined
abbrev pub serve : Ground → World → List Turn → ℕ → List ℕ
serve g w [] t = []
serve g w (turn ∷ turns) t =
    (if t == whose turn then bytes_given (turn_step g w turn) else [])
    ++ serve g (world_after g w turn) turns t

-- the turns of one tenant, in order
abbrev pub turns_of_tenant : ℕ → List Turn → List Turn
turns_of_tenant t [] = []
turns_of_tenant t (turn ∷ turns) = if t == whose turn then turn ∷ turns_of_tenant t turns
    else turns_of_tenant t turns
