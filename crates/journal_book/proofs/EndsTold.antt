-- An end that is accepted is that of the form that runs: its job and its trace are those kept of it.
use Rattle.std.proofs.Common.{◌≡◌, ◌∙◌, ℕ, Bool, true, false, Option, Some, None, option_and_then}
use Rattle.std.proofs.Common.{◌==◌, refl, sym, ap, subst}
use Rattle.std.specs.Prelude.{⊤}
use Rattle.repl_asks.specs.Exchange.{AnswerData}
use Rattle.repl_asks.specs.Job.{EndingData}
use Rattle.ref_table.specs.Calls.{performed}
use Rattle.server_rules.specs.Comparisons.{AreExact}
use Rattle.server_rules.specs.Ending.{end_compared, end_running, end_of}
use Rattle.server_rules.specs.Ground.{Ground}
use Rattle.server_rules.specs.Grounds.{IsRight}
use Rattle.server_rules.specs.Machine.World.{TenantData, World, does, Stepped, accepted, refused}
use Rattle.server_rules.specs.Machine.World.{ended_as, deed_step, step}
use Rattle.ref_table.specs.Numbered.{part_under}
use Rattle.server_rules.specs.Plan.{Outcome, refuses, leaves, Plan, ends, form_finished}
use Rattle.server_rules.specs.Deeds.{for_actor, plan}
use Rattle.server_rules.specs.Request.{WorkInHand, Run}
use Rattle.ref_table.specs.Store.{Store}
use Rattle.server_rules.specs.Tenant.{ActorData, TenantState, seat_of, is_held}
use Rattle.server_rules.specs.declared.actor.Actor.{Actor}
use Rattle.tenant_world.specs.Running.{running_of, running_in}
use Rattle.repl_core.specs.AttemptsUnderWay.{form_in}
use Rattle.repl_core.specs.Standing.{open_in, store_in}
use Rattle.repl_core.proofs.ActorSteps.{either}

module _ (g : Ground) (a : Actor) (e : EndingData) (exact : AreExact g.comparisons) where
  abbrev run : Run
  run = record { job = e.job; trace = e.trace }

  -- where the outcome is that the form finished, this is the form that runs
  abbrev OutcomeTells : TenantState → Outcome → Type 0
  OutcomeTells q (refuses why) = ⊤
  OutcomeTells q (leaves later answer) = answer ≡ form_finished → running_in a q ≡ Some run

  abbrev Tells : TenantState → Plan → Type 0
  Tells q p = (told : Option AnswerData) → OutcomeTells q (p.next told)

  module _ (q : TenantState) where
    compared-by : (actor : ActorData) (h : WorkInHand) (form : Run) → running_in a q ≡ Some form
        → (same : Bool) → g.comparisons.is_same_job e.job form.job ≡ same
        → (difference : Option ℕ) → g.comparisons.difference e.trace form.trace ≡ difference
        → Tells q (end_compared a actor h form e q same difference)
    compared-by actor h form runs false is difference there told = tt
    compared-by actor h form runs true is (Some place) there told = tt
    compared-by actor h form runs true is None there told = λ finished.
        let job : e.job ≡ form.job = (exact.same_job e.job form.job).0 is in
        let trace : e.trace ≡ form.trace = (exact.no_difference e.trace form.trace).0 there in
        runs ∙ ap (λ j. Some (record { job = j; trace = form.trace })) (sym job)
        ∙ ap (λ t. Some (record { job = e.job; trace = t })) (sym trace)

    running-by : (actor : ActorData) (h : WorkInHand) (o : Option Run)
        → running_in a q ≡ o → Tells q (end_running g a actor h e q o)
    running-by actor h None is = λ told. tt
    running-by actor h (Some form) is = either (Tells q) actor.is_closed _ _
        (λ told other. absurd (cc))
        (either (Tells q) (is_held q) _ _ (λ told. tt)
        (compared-by actor h form is _ refl _ refl))

    hand-by : (actor : ActorData) (o : Option WorkInHand)
        → running_in a q ≡ option_and_then (λ h. h.running) o → Tells q (end_of g a actor e q o)
    hand-by actor None is = λ told. tt
    hand-by actor (Some h) is = running-by actor h h.running is

    actor-by : (o : Option ActorData) → part_under (seat_of a) q.actors ≡ o
        → Tells q (for_actor o (λ actor. end_of g a actor e q actor.hand))
    actor-by None is = λ told. tt
    actor-by (Some actor) is = hand-by actor actor.hand (ap running_of is)

    plan-tells : (t : ℕ) → Tells q (plan g t q (ends a e))
    plan-tells t = either (Tells q) (q.steps == 0) _ _ (λ told. tt) (actor-by _ refl)

  module _ (w : World) (t : ℕ) where
    abbrev StepTells : Stepped → Type 0
    StepTells (refused why) = ⊤
    StepTells (accepted later answer) = answer ≡ form_finished → form_in t a w ≡ Some run

    ended-by : (kept : TenantData) → open_in t w ≡ Some kept → (new : Store) (o : Outcome)
        → OutcomeTells kept.state o → StepTells (ended_as w t new o)
    ended-by kept there new (refuses why) tells = tt
    ended-by kept there new (leaves later answer) tells = λ finished.
        ap (option_and_then (λ x. running_in a x.state)) there ∙ tells finished

    deed-by : (o : Option (Option TenantData)) → part_under t w.tenants ≡ o
        → StepTells (deed_step g w t (ends a e) o)
    deed-by None is = tt
    deed-by (Some None) is = tt
    deed-by (Some (Some kept)) is =
        let called = performed (store_in w.around t kept.mine) (plan g t kept.state (ends a e)).call in
        ended-by kept (ap (option_and_then (λ part. part)) is) called.store
        ((plan g t kept.state (ends a e)).next called.told)
        (plan-tells kept.state t called.told)

    made-by : StepTells (step g w (does t (ends a e)))
    unfolding step
    made-by = deed-by (part_under t w.tenants) refl

pub told-end : (g : Ground) (w later : World) (t : ℕ) (a : Actor) (e : EndingData) → IsRight g
    → step g w (does t (ends a e)) ≡ accepted later form_finished
    → form_in t a w ≡ Some (record { job = e.job; trace = e.trace })
told-end g w later t a e right is = tells (step g w (does t (ends a e))) is (made-by g a e right.comparisons w t)
  where
    tells : (s : Stepped) → s ≡ accepted later form_finished
        → StepTells g a e right.comparisons w t s → form_in t a w ≡ Some (record { job = e.job; trace = e.trace })
    tells s is told = subst (StepTells g a e right.comparisons w t) is told refl
