-- Turns are honest: so attempts in a list of turns agree with those of any other run.
use Rattle.std.proofs.Common.{◌≡◌, ◌∙◌, ℕ, List, [], ◌∷◌, Option, None, Some, take, map, refl, sym}
use Rattle.std.proofs.Common.{ap, subst}
use Rattle.std.proofs.lemmas.List.{take-map}
use Rattle.std.specs.Prelude.{option_map}
use Rattle.repl_asks.specs.Exchange.{AskData}
use Rattle.repl_asks.specs.InteractionTree.{InteractionTree, finished, asks}
use Rattle.repl_asks.specs.Leading.{tree_after}
use Rattle.ref_table.specs.Numbered.{part_under}
use Rattle.server_rules.specs.Ground.{Ground}
use Rattle.server_rules.specs.Request.{WorkInHand, Run}
use Rattle.server_rules.specs.Tenant.{ActorData, seat_of, TenantState}
use Rattle.server_rules.specs.Plan.{asks_for}
use Rattle.server_rules.specs.Honest.{honest_at, honest_of, honest_in, honest_by, honest_deed}
use Rattle.server_rules.specs.Machine.Turns as rules
use Rattle.server_rules.specs.Machine.Turns.{goes, step_of, tenant_state_of, world_after}
use Rattle.server_rules.specs.Machine.World.{World, Step, opened_world, run}
use Rattle.server_rules.specs.declared.actor.Actor.{Actor}
use Rattle.repl_core.specs.Driving.{world_after_all}
use Rattle.repl_core.specs.HonestRuns.{AsksHonestly, AreHonest}
use Rattle.repl_core.specs.AttemptsInRuns.{AttemptsAgree}
use Rattle.repl_core.proofs.AttemptsInRuns.{attempts-agree}
use Rattle.machine_runs.specs.Attempts.{AgreesWithAnyRun}
use Rattle.machine_runs.specs.Turns.{turn_view}
use Rattle.machine_runs.specs.declared.turn.Turn.{Turn}

-- Where a turn lets an actor go on, and that is an ask, it is an ask of this actor.

asks-itself : (g : Ground) (b a : Actor) (ask : AskData) (q : Option (Option TenantState))
    → honest_deed g b q ≡ asks_for a ask → b ≡ a
asks-itself g b a ask None e = absurd (cc)
asks-itself g b a ask (Some None) e = absurd (cc)
asks-itself g b a ask (Some (Some q)) e = by (part_under (seat_of b) q.actors) e
  where
    at : (form : Run) (tree : InteractionTree) → honest_at b form tree ≡ asks_for a ask → b ≡ a
    at form (asks other behind) e = cc
    at form (finished end) e = absurd (cc)

    of : (o : Option Run) → honest_of g b o ≡ asks_for a ask → b ≡ a
    of None e = absurd (cc)
    of (Some form) e = at form (tree_after (g.evaluation form.job) form.trace) e

    held : (o : Option WorkInHand) → honest_in g b o ≡ asks_for a ask → b ≡ a
    held None e = absurd (cc)
    held (Some h) e = of h.running e

    by : (o : Option ActorData) → honest_by g b o ≡ asks_for a ask → b ≡ a
    by None e = absurd (cc)
    by (Some actor) e = held actor.hand e

module _ (g : Ground) (t : ℕ) (a : Actor) where
  turn-honest : (w : World) (turn : Turn) → AsksHonestly g w t a (step_of g w (turn_view turn))
  turn-honest w (Turn.Open u) ask e ok = absurd (cc)
  turn-honest w (Turn.Bytes u piece) ask e ok = absurd (cc)
  turn-honest w (Turn.Go u b) ask e ok =
      let whose : u ≡ t = cc in
      let said : honest_deed g b (option_map tenant_state_of (part_under u w.tenants)) ≡ asks_for a ask = cc in
      let who : b ≡ a = asks-itself g b a ask (option_map tenant_state_of (part_under u w.tenants)) said in
      let same : goes t a ≡ goes u b = cc in
      ap (step_of g w) same
  turn-honest w (Turn.Drain u) ask e ok = absurd (cc)
  turn-honest w (Turn.Bye u) ask e ok = absurd (cc)

-- The steps that turns make

abbrev steps_of : Ground → World → List rules.Turn → List Step
steps_of g w [] = []
steps_of g w (turn ∷ turns) = step_of g w turn ∷ steps_of g (world_after g w turn) turns

run-of-turns : (g : Ground) (w : World) (turns : List rules.Turn)
    → run g w (steps_of g w turns) ≡ world_after_all g w turns
run-of-turns g w [] = refl
run-of-turns g w (turn ∷ turns) = run-of-turns g (world_after g w turn) turns

turns-honest : (g : Ground) (w : World) (t : ℕ) (a : Actor) (turns : List Turn)
    → AreHonest g w t a (steps_of g w (map turn_view turns))
turns-honest g w t a [] = tt
turns-honest g w t a (turn ∷ turns) = (
  turn-honest g t a w turn,
  turns-honest g (world_after g w (turn_view turn)) t a turns,
)

pub agrees-with-any : (g : Ground) (turns : List Turn) → AgreesWithAnyRun g (map turn_view turns)
agrees-with-any g turns n steps t u a b honest =
    let start = opened_world g in
    let made = steps_of g start (map turn_view (take n turns)) in
    let on : run g start made ≡ world_after_all g start (take n (map turn_view turns)) =
    run-of-turns g start (map turn_view (take n turns))
    ∙ ap (world_after_all g start) (sym (take-map turn_view n turns)) in
    subst (λ w. AttemptsAgree g w t a (run g start steps) u b) on
    (attempts-agree g made steps t u a b (turns-honest g start t a (take n turns)) honest)
