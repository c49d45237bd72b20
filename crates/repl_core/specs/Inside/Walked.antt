-- How far the evaluations of the forms that run have come.
use Rattle.std.specs.Prelude.{◌≡◌, Option, Some}
use Rattle.repl_asks.specs.Inside.Jobs.{finished_view}
use Rattle.repl_asks.specs.Job.{EndingData}
use Rattle.repl_asks.specs.Leading.{tree_after}
use Rattle.repl_walker.specs.Steps.{reached_tree}
use Rattle.repl_asks.specs.declared.job.Finished.{Finished}
use Rattle.repl_walker.specs.declared.steps.Reached.{Reached}
use Rattle.server_rules.specs.Request.{Run}
use Rattle.server_rules.specs.Tenant.{TenantState}
use Rattle.server_rules.specs.declared.actor.Actor.{Actor}
use Rattle.evaluation_rules.specs.Evaluation.{evaluation}
use Rattle.tenant_world.specs.Running.{running_in}

-- it came as far as the answers in the trace of the run take it
abbrev pub IsWalkOf : Run → Reached → Type 0
IsWalkOf run p = reached_tree p ≡ tree_after (evaluation run.job) run.trace

-- each that is kept of a form that runs is that form's
abbrev pub AreWalked : (Actor → Option Reached) → TenantState → Type 0
AreWalked walk q = (a : Actor) (run : Run) (p : Reached) → running_in a q ≡ Some run
    → walk a ≡ Some p → IsWalkOf run p

-- the ending of a form that runs, where its evaluation ended so
abbrev pub walk_ended : Run → Finished → EndingData
walk_ended run e = record { job = run.job; trace = run.trace; end = finished_view e }
