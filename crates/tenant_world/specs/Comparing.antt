-- An ending is compared with the form that runs.
use Rattle.std.specs.Prelude.{◌≡◌, ℕ, Bool, true, false, Option, None, Some, Result, Ok, Err}
use Rattle.std.specs.Prelude.{if◌then◌else◌}
use Rattle.server_rules.specs.Ground.{Ground}
use Rattle.server_rules.specs.Request.{Run}
use Rattle.repl_asks.specs.Job.{EndingData}
use Rattle.server_rules.specs.Tenant.{ActorData, TenantState, is_held}
use Rattle.server_rules.specs.declared.refusal.Refusal.{Refusal}
use Rattle.tenant_world.specs.Running.{running_of}

-- why it is refused, if it is: its job is another, or its trace differs first at a place
abbrev pub difference_told : Bool → Option ℕ → Option Refusal
difference_told false place = Some (Refusal.TraceMismatch 0)
difference_told true None = None
difference_told true (Some place) = Some (Refusal.TraceMismatch place)

abbrev pub ending_refusal : Ground → Run → EndingData → Option Refusal
ending_refusal g run e = difference_told (g.comparisons.is_same_job e.job run.job)
    (g.comparisons.difference e.trace run.trace)

abbrev pub refusal_in : {A : Type 0} → Result A Refusal → Option Refusal
refusal_in (Ok x) = None
refusal_in (Err why) = Some why

-- the form that runs, unless its end is interrupted or held back whatever it is
abbrev pub compared_run : ActorData → TenantState → Option Run
compared_run actor q =
    if actor.is_closed then None else if is_held q then None else running_of (Some actor)

-- where the ending comes to be compared, it is not refused
abbrev pub PassesComparison : Ground → ActorData → TenantState → EndingData → Type 0
PassesComparison g actor q e =
    (run : Run) → compared_run actor q ≡ Some run → ending_refusal g run e ≡ None

-- it is compared, and refused so
pub record FailsComparison (g : Ground) (actor : ActorData) (q : TenantState) (e : EndingData)
    (why : Refusal)
    : Type 0 where
  pub run : Run
  pub compared : compared_run actor q ≡ Some run
  pub differs : Some why ≡ ending_refusal g run e
