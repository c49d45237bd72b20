-- Turns and what they come to, as the rules have them.
use Rattle.std.specs.Prelude.{ℕ, List, [], Option, None, Some, map}
use Rattle.std.specs.BTreeMap.{get}
use Rattle.std.specs.Ordering.{nat_cmp}
use Rattle.std.specs.Prelude.{Vec}
use Rattle.std.specs.declared.alloc.Global.{Global}
use Rattle.server_rules.specs.Plan.{hears, drains}
use Rattle.server_rules.specs.Machine.Turns as rules
use Rattle.server_rules.specs.Machine.Turns.{given, goes}
use Rattle.server_rules.specs.Machine.World.{opens, does, closes}
use Rattle.repl_core.specs.Driving.{RefusedData}
use Rattle.machine_runs.specs.declared.turn.Turn.{Turn}
use Rattle.machine_runs.specs.declared.outputs.Outputs.{Outputs}
use Rattle.machine_runs.specs.declared.outputs.RefusedTurn.{RefusedTurn}

abbrev pub turn_view : Turn → rules.Turn
turn_view (Turn.Open t) = given (opens t)
turn_view (Turn.Bytes t piece) = given (does t (hears piece))
turn_view (Turn.Go t actor) = goes t actor
turn_view (Turn.Drain t) = given (does t drains)
turn_view (Turn.Bye t) = given (closes t)

-- the bytes that a turn gave
abbrev pub piece_given : Option (Vec ℕ Global) → List ℕ
piece_given None = []
piece_given (Some bytes) = bytes.items

-- all that were drained of a tenant
abbrev pub drained_of : Outputs → ℕ → List ℕ
drained_of outputs t = piece_given (get nat_cmp outputs.drained t)

abbrev pub refused_view : RefusedTurn → RefusedData
refused_view it = record { place = it.place; why = it.why }

abbrev pub refused_in : Outputs → List RefusedData
refused_in outputs = map refused_view outputs.refused.items
