-- The honest deed of an actor, from the form of it that runs and how far its evaluation came.
use Rattle.std.proofs.Common.{◌≡◌, Option, Some, None, option_and_then, refl, sym, ap, ◌∙◌}
use Rattle.repl_asks.specs.Inside.View.{ask_view}
use Rattle.repl_asks.specs.Leading.{tree_after}
use Rattle.repl_asks.specs.declared.ask.Ask.{Ask}
use Rattle.repl_walker.specs.Steps.{reached_tree}
use Rattle.repl_walker.specs.declared.steps.WaitingEvaluation.{WaitingEvaluation}
use Rattle.repl_walker.specs.declared.steps.Reached.{Reached}
use Rattle.repl_asks.specs.declared.job.Finished.{Finished}
use Rattle.server_rules.specs.Ground.{Ground}
use Rattle.ref_table.specs.Numbered.{part_under}
use Rattle.server_rules.specs.Request.{WorkInHand, Run}
use Rattle.server_rules.specs.Tenant.{ActorData, TenantState, seat_of}
use Rattle.server_rules.specs.Plan as deeds
use Rattle.server_rules.specs.Honest.{honest_deed, honest_at, honest_of, honest_in, honest_by}
use Rattle.server_rules.specs.declared.actor.Actor.{Actor}
use Rattle.tenant_world.specs.Running.{running_of, running_in}
use Rattle.repl_core.specs.Grounds.{Evaluates}
use Rattle.repl_core.specs.Inside.Walked.{IsWalkOf, walk_ended}

-- no form of the actor runs
pub honest_deed-starts : (g : Ground) (a : Actor) (q : TenantState) → running_in a q ≡ None
    → deeds.starts a ≡ honest_deed g a (Some (Some q))
honest_deed-starts g a q none = sym (by (part_under (seat_of a) q.actors) none)
  where
    of_run : (r : Option Run) → r ≡ None → honest_of g a r ≡ deeds.starts a
    of_run None e = refl
    of_run (Some run) e = absurd (cc)

    in_hand : (h : Option WorkInHand) → option_and_then (λ h. h.running) h ≡ None
        → honest_in g a h ≡ deeds.starts a
    in_hand None e = refl
    in_hand (Some h) e = of_run h.running e

    by : (o : Option ActorData) → running_of o ≡ None → honest_by g a o ≡ deeds.starts a
    by None e = refl
    by (Some actor) e = in_hand actor.hand e

pub honest_deed-runs : (g : Ground) (a : Actor) (q : TenantState) (run : Run) → running_in a q ≡ Some run
    → honest_deed g a (Some (Some q)) ≡ honest_at a run (tree_after (g.evaluation run.job) run.trace)
honest_deed-runs g a q run some = by (part_under (seat_of a) q.actors) some
  where
    of_run : (r : Option Run) → r ≡ Some run
        → honest_of g a r ≡ honest_at a run (tree_after (g.evaluation run.job) run.trace)
    of_run None e = absurd (cc)
    of_run (Some other) e = ap (λ o. honest_of g a o) e

    in_hand : (h : Option WorkInHand) → option_and_then (λ h. h.running) h ≡ Some run
        → honest_in g a h ≡ honest_at a run (tree_after (g.evaluation run.job) run.trace)
    in_hand None e = absurd (cc)
    in_hand (Some h) e = of_run h.running e

    by : (o : Option ActorData) → running_of o ≡ Some run
        → honest_by g a o ≡ honest_at a run (tree_after (g.evaluation run.job) run.trace)
    by None e = absurd (cc)
    by (Some actor) e = in_hand actor.hand e

-- the evaluation came so far
walked-so : (g : Ground) (a : Actor) (q : TenantState) (run : Run) (p : Reached) → Evaluates g
    → running_in a q ≡ Some run → IsWalkOf run p
    → honest_deed g a (Some (Some q)) ≡ honest_at a run (reached_tree p)
walked-so g a q run p ground some walk =
    honest_deed-runs g a q run some
    ∙ ap (λ t. honest_at a run (tree_after t run.trace)) (ground.evaluation run.job)
    ∙ ap (honest_at a run) (sym walk)

pub honest_deed-asks : (g : Ground) (a : Actor) (q : TenantState) (run : Run) (w : WaitingEvaluation) (k : Ask) → Evaluates g
    → running_in a q ≡ Some run → IsWalkOf run (Reached.Asks w k)
    → deeds.asks_for a (ask_view k) ≡ honest_deed g a (Some (Some q))
honest_deed-asks g a q run w k ground some walk =
    sym (walked-so g a q run (Reached.Asks w k) ground some walk)

pub honest_deed-ends : (g : Ground) (a : Actor) (q : TenantState) (run : Run) (e : Finished) → Evaluates g
    → running_in a q ≡ Some run → IsWalkOf run (Reached.Ends e)
    → deeds.ends a (walk_ended run e) ≡ honest_deed g a (Some (Some q))
honest_deed-ends g a q run e ground some walk =
    sym (walked-so g a q run (Reached.Ends e) ground some walk)
