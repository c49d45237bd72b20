-- The form of an actor that runs.
use Rattle.std.specs.Prelude.{◌≡◌, Option, Some, option_and_then}
use Rattle.repl_asks.specs.Job.{EndData, EndingData}
use Rattle.ref_table.specs.Numbered.{part_under}
use Rattle.server_rules.specs.Request.{Run}
use Rattle.server_rules.specs.Tenant.{ActorData, TenantState, seat_of}
use Rattle.server_rules.specs.declared.actor.Actor.{Actor}

abbrev pub running_of : Option ActorData → Option Run
running_of = option_and_then (λ actor. option_and_then (λ h. h.running) actor.hand)

abbrev pub running_in : Actor → TenantState → Option Run
running_in a q = running_of (part_under (seat_of a) q.actors)

-- an ending with the job and the trace that are kept of the form that runs
pub record IsEndOfForm (running : Option Run) (ended : EndData) (e : EndingData) : Type 0 where
  pub end : e.end ≡ ended
  pub job : (run : Run) → running ≡ Some run → e.job ≡ run.job
  pub trace : (run : Run) → running ≡ Some run → e.trace ≡ run.trace
