-- The turn of an actor gives no bytes.
use Rattle.std.proofs.Common.{◌≡◌, ℕ, [], Option, Some, None, option_map, refl, sym, ap, subst, ◌∙◌}
use Rattle.server_rules.specs.Ground.{Ground}
use Rattle.ref_table.specs.Numbered.{part_under}
use Rattle.server_rules.specs.Plan.{Deed, StepAnswer, Outcome, refuses, leaves}
use Rattle.server_rules.specs.Honest.{honest_deed}
use Rattle.server_rules.specs.Machine.Turns.{goes, turn_step, tenant_state_of}
use Rattle.server_rules.specs.Plan.{bytes_in}
use Rattle.server_rules.specs.Machine.World.{TenantData, World, accepted, refused, ended_as}
use Rattle.server_rules.specs.declared.actor.Actor.{Actor}
use Rattle.server_rules.specs.declared.refusal.Refusal.{Refusal}
use Rattle.server_rules.specs.DeedResult.{DeedResult}
use Rattle.server_rules.specs.LoneTurns as turns
use Rattle.server_rules.specs.LoneTurns.{LoneTenant}
use Rattle.nrepl_pipe.proofs.Going.{go-gives}
use Rattle.repl_core.specs.Standing.{open_in, store_in}
use Rattle.repl_core.proofs.Honest.{honest_deed-turn}
use Rattle.repl_core.proofs.Worlds.{deed_of, step-deed, step-none}

abbrev lone_of : World → ℕ → TenantData → LoneTenant
lone_of w t kept = record { state = kept.state; store = store_in w.around t kept.mine }

abbrev honest_of : Ground → Actor → TenantData → Deed
honest_of g a kept = honest_deed g a (Some (Some kept.state))

turn-as : (g : Ground) (w : World) (t : ℕ) (a : Actor) (kept : TenantData)
    → turns.lone_step g (lone_of w t kept) (turns.goes a)
    ≡ turns.lone_ended (deed_of g w t kept (honest_of g a kept)).store
    (deed_of g w t kept (honest_of g a kept)).outcome
unfolding turns.lone_step
turn-as g w t a kept = refl

pub goes-give : (g : Ground) (w after : World) (t : ℕ) (a : Actor) (answer : StepAnswer)
    → turn_step g w (goes t a) ≡ accepted after answer → bytes_in answer ≡ []
goes-give g w after t a answer is = by (open_in t w) refl
  where
    given : (kept : TenantData) (e : DeedResult) (outcome : Outcome) → e.outcome ≡ outcome
        → turns.reply_taken (turns.lone_ended e.store e.outcome) ≡ []
        → ended_as w t e.store outcome ≡ accepted after answer → bytes_in answer ≡ []
    given kept e (refuses why) out gives never = absurd (cc)
    given kept e (leaves q x) out gives same =
        let equal : x ≡ answer = cc in
        subst (λ y. bytes_in y ≡ []) equal
        (ap (λ o. turns.reply_taken (turns.lone_ended e.store o)) (sym out) ∙ gives)

    by : (it : Option TenantData) → open_in t w ≡ it → bytes_in answer ≡ []
    by None none =
        let never : refused Refusal.NoSuchTenant ≡ accepted after answer =
        sym (step-none g w t (honest_deed g a (option_map tenant_state_of (part_under t w.tenants))) none) ∙ is in
        absurd (cc)
    by (Some kept) there =
        let e = deed_of g w t kept (honest_of g a kept) in
        given kept e e.outcome refl
        (ap turns.reply_taken (sym (turn-as g w t a kept)) ∙ go-gives g (lone_of w t kept) a)
        (sym (honest_deed-turn g w t a kept there ∙ step-deed g w t (honest_of g a kept) kept there)
        ∙ is)
