-- When an honest deed may be refused for want of memory.
use Rattle.std.proofs.Common.{◌≡◌, ◌==◌, ◌||◌, true, false, Option, Some, None, is_some}
use Rattle.std.proofs.Common.{sym, ap, ◌∙◌}
use Rattle.std.proofs.lemmas.Bool.{eq-eqb, false≢true}
use Rattle.repl_asks.specs.InteractionTree.{InteractionTree, finished, asks}
use Rattle.repl_asks.specs.Job.{EndingData}
use Rattle.repl_asks.specs.Leading.{tree_after}
use Rattle.server_rules.specs.Ground.{Ground}
use Rattle.ref_table.specs.Numbered.{part_under}
use Rattle.server_rules.specs.Request.{WorkInHand, Run}
use Rattle.server_rules.specs.Tenant.{ActorData, TenantState, seat_of}
use Rattle.server_rules.specs.Plan as deeds
use Rattle.server_rules.specs.Plan.{Deed, refuses, quietly}
use Rattle.server_rules.specs.Deeds.{start_of}
use Rattle.server_rules.specs.Asking.{asked_of}
use Rattle.server_rules.specs.Ending.{end_of}
use Rattle.server_rules.specs.Honest.{honest_deed, honest_at, honest_of, honest_in, honest_by}
use Rattle.server_rules.specs.declared.actor.Actor.{Actor}
use Rattle.server_rules.specs.declared.refusal.Refusal.{Refusal}
use Rattle.ref_table.specs.Refs.{TableRefs}
use Rattle.server_rules.specs.LoneTurns.{LoneTenant}
use Rattle.tenant_world.specs.Running.{running_in}
use Rattle.tenant_world.proofs.Standing.{worn-by, starts-by, asks-by, ends-by}
use Rattle.repl_core.specs.Inside.Seen.{keeps_walk, is_seen}
use Rattle.repl_core.specs.Inside.Standing.{Parts, PartsStand, RefusesHonestDeed, comes_to}
use Rattle.repl_core.specs.Inside.WalkAt.{walk_at}
use Rattle.repl_core.specs.declared.walks.Walks.{Walks}
use Rattle.repl_core.proofs.WalkDeeds.{honest_deed-runs}

-- where no step is left, the honest deed is refused for that, whatever it is
abbrev IsRefusedWorn : Ground → LoneTenant → Deed → Type 0
IsRefusedWorn g l deed = (comes_to g l deed).outcome ≡ refuses Refusal.Worn

honest-worn : (g : Ground) (l : LoneTenant) (a : Actor) → (l.state.steps == 0) ≡ true
    → IsRefusedWorn g l (honest_deed g a (Some (Some l.state)))
honest-worn g l a none = by (part_under (seat_of a) l.state.actors)
  where
    begun : IsRefusedWorn g l (deeds.starts a)
    begun = ap (λ d. d.outcome) (starts-by g l.state l.store a)
        ∙ worn-by l.state l.store a (λ actor. quietly (start_of g a actor l.state actor.hand)) none

    at_tree : (run : Run) (t : InteractionTree) → IsRefusedWorn g l (honest_at a run t)
    at_tree run (asks ask k) = ap (λ d. d.outcome) (asks-by g l.state l.store a ask)
        ∙ worn-by l.state l.store a (λ actor. asked_of g a actor ask l.state actor.hand) none
    at_tree run (finished end) =
        let e : EndingData = record { job = run.job; trace = run.trace; end = end } in
        ap (λ d. d.outcome) (ends-by g l.state l.store a e)
        ∙ worn-by l.state l.store a (λ actor. end_of g a actor e l.state actor.hand) none

    of_run : (r : Option Run) → IsRefusedWorn g l (honest_of g a r)
    of_run None = begun
    of_run (Some run) = at_tree run (tree_after (g.evaluation run.job) run.trace)

    in_hand : (h : Option WorkInHand) → IsRefusedWorn g l (honest_in g a h)
    in_hand None = begun
    in_hand (Some h) = of_run h.running

    by : (o : Option ActorData) → IsRefusedWorn g l (honest_by g a o)
    by None = begun
    by (Some actor) = in_hand actor.hand

pub refused-worn : (g : Ground) (l : LoneTenant) (r : TableRefs) (a : Actor) (p : Parts) → p.tenant.steps ≡ 0
    → PartsStand g p l r
    → RefusesHonestDeed g l r (honest_deed g a (Some (Some l.state))) p Refusal.Worn
refused-worn g l r a p none s = record {
  refused = λ other. honest-worn g l a (eq-eqb l.state.steps 0 (sym s.tenant.steps ∙ none));
  stands = s;
}

-- of no deed is it seen whether it is refused, of a form that runs whose evaluation is neither kept
-- nor made
pub unkept-unseen : (g : Ground) (a : Actor) (q : TenantState) (run : Run) (old new : Walks)
    → running_in a q ≡ Some run → walk_at old a ≡ None → walk_at new a ≡ walk_at old a
    → is_seen (keeps_walk old new a) (honest_deed g a (Some (Some q))) ≡ true → ⊥
unkept-unseen g a q run old new runs none stays seen =
    by (tree_after (g.evaluation run.job) run.trace)
    (sym (ap (is_seen false) (honest_deed-runs g a q run runs))
    ∙ sym (ap (λ b. is_seen b (honest_deed g a (Some (Some q)))) unkept) ∙ seen)
  where
    unkept : keeps_walk old new a ≡ false
    unkept = ap (λ o. is_some o || is_some (walk_at new a)) none ∙ ap is_some (stays ∙ none)

    by : (t : InteractionTree) → is_seen false (honest_at a run t) ≡ true → ⊥
    by (asks ask k) never = false≢true never
    by (finished e) never = false≢true never
