-- The trace of an honest actor's form is its evaluation's.
use Rattle.std.proofs.Common.{◌≡◌, ◌∙◌, inl, inr, ℕ, List, [], ◌∷◌, ◌++◌, Option, Some, None}
use Rattle.std.proofs.Common.{option_and_then, refl, sym, ap, subst}
use Rattle.std.specs.Prelude.{⊤, option_map}
use Rattle.repl_asks.specs.Exchange.{AskData, AnswerData, Exchanged}
use Rattle.repl_asks.specs.InteractionTree.{InteractionTree, finished, asks}
use Rattle.repl_asks.specs.Leading.{tree_after, AreItsAsks}
use Rattle.ref_table.specs.Numbered.{part_under}
use Rattle.server_rules.specs.Ground.{Ground}
use Rattle.server_rules.specs.Honest.{honest_at, honest_of, honest_in, honest_by, honest_deed}
use Rattle.server_rules.specs.Request.{WorkInHand, Run}
use Rattle.server_rules.specs.Tenant.{ActorData, seat_of}
use Rattle.server_rules.specs.Plan.{Deed, asks_for}
use Rattle.server_rules.specs.Asking.{answer_to}
use Rattle.server_rules.specs.Machine.Turns.{goes, step_of, tenant_state_of}
use Rattle.server_rules.specs.Machine.World.{World, Step, does, step, world_or, opened_world, run}
use Rattle.server_rules.specs.declared.actor.Actor.{Actor}
use Rattle.tenant_asks.specs.Asking.{exchange_from}
use Rattle.tenant_world.specs.Running.{running_of, running_in}
use Rattle.repl_core.specs.AttemptsUnderWay.{form_in}
use Rattle.repl_core.specs.HonestRuns.{AsksHonestly, AreHonest, HonestFormsAskAsEvaluated}
use Rattle.repl_core.proofs.Worlds.{found-open}
use Rattle.repl_core.proofs.ActorSteps.{IsFresh}
use Rattle.repl_core.proofs.WorldSteps.{Asks, StepMoves, step-moves}

-- Traces

one-more : (start : InteractionTree) (xs : List Exchanged) (x : Exchanged)
    (behind : AnswerData → InteractionTree) → AreItsAsks start xs
    → tree_after start xs ≡ asks x.ask behind → AreItsAsks start (xs ++ x ∷ [])
one-more start [] x behind all is =
    subst (λ t. AreItsAsks t (x ∷ [])) (sym is) (refl, tt)
one-more (finished e) (y ∷ ys) x behind all is = absurd all
one-more (asks ask next) (y ∷ ys) x behind all is =
    (all.0, one-more (next y.answer) ys x behind all.1 is)

-- What an honest actor asks

honest-is : (g : Ground) (a : Actor) (form : Run) (o : Option ActorData) → running_of o ≡ Some form
    → honest_by g a o ≡ honest_at a form (tree_after (g.evaluation form.job) form.trace)
honest-is g a form None never = absurd (cc)
honest-is g a form (Some actor) runs = by actor.hand runs
  where
    by : (h : Option WorkInHand) → option_and_then (λ x. x.running) h ≡ Some form
        → honest_in g a h ≡ honest_at a form (tree_after (g.evaluation form.job) form.trace)
    by None never = absurd (cc)
    by (Some h) is = ap (honest_of g a) is

abbrev deed_in : Deed → Step → Deed
deed_in d (does t deed) = deed
deed_in d _ = d

-- its evaluation asks this next
asks-next : (a : Actor) (form : Run) (ask : AskData) (tree : InteractionTree)
    → honest_at a form tree ≡ asks_for a ask
    → (behind : AnswerData → InteractionTree) × (tree ≡ asks ask behind)
asks-next a form ask (finished e) is = absurd (cc)
asks-next a form ask (asks other behind) is =
    let same : other ≡ ask = cc in (behind, ap (λ x. asks x behind) same)

-- Steps

abbrev Asked : Ground → Option Run → Type 0
Asked g None = ⊤
Asked g (Some form) = AreItsAsks (g.evaluation form.job) form.trace

fresh-asked : (g : Ground) (f : Option Run) → IsFresh f → Asked g f
fresh-asked g None fresh = tt
fresh-asked g (Some form) fresh =
    subst (λ xs. AreItsAsks (g.evaluation form.job) xs) (sym fresh) tt

step-asked : (g : Ground) (w : World) (s : Step) (t : ℕ) (a : Actor) → AsksHonestly g w t a s
    → Asked g (form_in t a w) → Asked g (form_in t a (world_or w (step g w s)))
step-asked g w s t a honest all = by (step-moves g w s t a)
  where
    asked : Asks g w s (step g w s) t a → Asked g (form_in t a (world_or w (step g w s)))
    asked it =
        let form = it.asked.form in
        let tree = tree_after (g.evaluation form.job) form.trace in
        let is : s ≡ does t (asks_for a it.asked.ask) = it.is ∙ ap (λ d. does t d) it.asked.is in
        let deed : step_of g w (goes t a) ≡ does t (honest_at a form tree) =
        ap (λ o. does t (honest_deed g a (option_map tenant_state_of o)))
        (found-open (part_under t w.tenants) it.kept it.there)
        ∙ ap (λ d. does t d)
        (honest-is g a form (part_under (seat_of a) it.kept.state.actors) it.asked.runs) in
        let next = asks-next a form it.asked.ask tree
        (ap (deed_in (asks_for a it.asked.ask))
        (sym deed ∙ honest it.asked.ask is it.accepted ∙ is)) in
        let runs : form_in t a w ≡ Some form =
        ap (option_and_then (λ kept. running_in a kept.state)) it.there ∙ it.asked.runs in
        subst (Asked g) (sym it.asked.form_after)
        (one-more (g.evaluation form.job) form.trace
        (exchange_from it.asked.ask (answer_to g a it.kept.state it.asked.ask it.asked.told))
        next.0 (subst (Asked g) runs all) next.1)

    by : StepMoves g w s (step g w s) t a → Asked g (form_in t a (world_or w (step g w s)))
    by (inl m) = subst (Asked g) (sym m.0) all
    by (inr (inl m)) = fresh-asked g (form_in t a (world_or w (step g w s))) m.1
    by (inr (inr (inl m))) = subst (Asked g) (sym m.0) tt
    by (inr (inr (inr m))) = asked m

run-asked : (g : Ground) (w : World) (steps : List Step) (t : ℕ) (a : Actor)
    → AreHonest g w t a steps → Asked g (form_in t a w) → Asked g (form_in t a (run g w steps))
run-asked g w [] t a honest all = all
run-asked g w (s ∷ ss) t a honest all =
    run-asked g (world_or w (step g w s)) ss t a honest.1 (step-asked g w s t a honest.0 all)

pub honest-forms : HonestFormsAskAsEvaluated
honest-forms g steps t a form honest runs =
    subst (Asked g) runs (run-asked g (opened_world g) steps t a honest tt)
