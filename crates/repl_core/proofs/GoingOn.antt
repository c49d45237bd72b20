-- The evaluations of a tenant's forms, through deeds by which none goes on.
use Rattle.std.proofs.Common.{◌≡◌, ℕ, Option, Some, None, refl, sym, ap, subst, ◌∙◌}
use Rattle.server_rules.specs.Ground.{Ground}
use Rattle.server_rules.specs.Plan as deeds
use Rattle.server_rules.specs.Plan.{Deed, StepAnswer, Outcome, refuses, leaves}
use Rattle.ref_table.specs.Store.{Store}
use Rattle.server_rules.specs.Tenant.{TenantState}
use Rattle.server_rules.specs.Machine.World.{TenantData, World, Stepped, accepted, refused, step, does}
use Rattle.server_rules.specs.Machine.World.{ended_as}
use Rattle.server_rules.specs.declared.actor.Actor.{Actor}
use Rattle.server_rules.specs.declared.refusal.Refusal.{Refusal}
use Rattle.server_rules.specs.DeedResult.{deed_result}
use Rattle.repl_core.specs.Inside.WalkAt.{walk_at}
use Rattle.repl_core.specs.Inside.Walked.{AreWalked}
use Rattle.repl_core.specs.declared.walks.Walks.{Walks}
use Rattle.repl_core.proofs.Outcomes.{heard-after}
use Rattle.repl_core.proofs.Runs.{heard-runs}
use Rattle.repl_core.proofs.Steps.{drain_outcome-runs, drains-by}
use Rattle.tenant_world.specs.Running.{running_in}
use Rattle.repl_core.specs.Going.{AreWalkedIn, KeepsForms}
use Rattle.repl_core.specs.Standing.{open_in, store_in}
use Rattle.repl_core.proofs.Worlds.{deed_of, step-deed, step-none}
use Rattle.repl_core.proofs.Places.{open-mine}

abbrev world_left : World → Stepped → World
world_left w (accepted after answer) = after
world_left w (refused why) = w

pub same-world : (w x : World) (a b : StepAnswer) → accepted w a ≡ accepted x b → w ≡ x
same-world w x a b e = ap (world_left w) e

-- the forms that ran run on, as they did
runs-on : (walks : Walks) (q after : TenantState) → ((a : Actor) → running_in a after ≡ running_in a q)
    → AreWalked (walk_at walks) q → AreWalked (walk_at walks) after
runs-on walks q after same walked = λ a run p runs at. walked a run p (sym (same a) ∙ runs) at

deed-runs : (g : Ground) (q after : TenantState) (s : Store) (d : Deed) (answer : StepAnswer)
    → KeepsForms d → (deed_result g s q d).outcome ≡ leaves after answer
    → (a : Actor) → running_in a after ≡ running_in a q
deed-runs g q after s (deeds.hears piece) answer keeps is a =
    ap (running_in a) (heard-after g q s piece after answer is)
    ∙ heard-runs g s.tenant piece q a
deed-runs g q after s deeds.drains answer keeps is a =
    drain_outcome-runs q after answer a q.replies
    (sym (drains-by g (record { state = q; store = s })) ∙ is)
deed-runs g q after s (deeds.starts b) answer keeps is a = absurd (keeps)
deed-runs g q after s (deeds.asks_for b ask) answer keeps is a = absurd (keeps)
deed-runs g q after s (deeds.ends b e) answer keeps is a = absurd (keeps)

pub deed-walked : (g : Ground) (w after : World) (t : ℕ) (d : Deed) (answer : StepAnswer)
    (walks : Walks) → KeepsForms d → step g w (does t d) ≡ accepted after answer
    → AreWalkedIn walks (open_in t w) → AreWalkedIn walks (open_in t after)
deed-walked g w after t d answer walks keeps is walked = by (open_in t w) refl
  where
    left : (kept : TenantData) → open_in t w ≡ Some kept → (outcome : Outcome)
        → (deed_of g w t kept d).outcome ≡ outcome
        → ended_as w t (deed_of g w t kept d).store outcome ≡ accepted after answer
        → AreWalkedIn walks (open_in t after)
    left kept there (refuses why) out never = absurd (cc)
    left kept there (leaves q x) out same =
        let e = deed_of g w t kept d in
        let part : TenantData = record { state = q; mine = e.store.mine } in
        subst (λ y. AreWalkedIn walks (open_in t y)) (same-world _ after _ answer same)
        (subst (AreWalkedIn walks)
        (sym (open-mine w e.store.around t (Some part) kept there))
        (runs-on walks kept.state q
        (deed-runs g kept.state q (store_in w.around t kept.mine) d x keeps out)
        (subst (AreWalkedIn walks) there walked)))

    by : (it : Option TenantData) → open_in t w ≡ it → AreWalkedIn walks (open_in t after)
    by None none =
        let never : refused Refusal.NoSuchTenant ≡ accepted after answer =
        sym (step-none g w t d none) ∙ is in absurd (cc)
    by (Some kept) there =
        left kept there (deed_of g w t kept d).outcome refl
        (sym (step-deed g w t d kept there) ∙ is)

-- no form runs yet
pub fresh-walked : (walks : Walks) (o : Option TenantData)
    → ((a : Actor) → walk_at walks a ≡ None) → AreWalkedIn walks o
fresh-walked walks None none = tt
fresh-walked walks (Some kept) none = λ a run p runs at.
    let never : None ≡ Some p = sym (none a) ∙ at in absurd (cc)
