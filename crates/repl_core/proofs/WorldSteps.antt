-- What a step of a server makes of an actor's form and of its read point.
use Rattle.std.proofs.Common.{◌≡◌, ◌≢◌, ◌∙◌, ◌⊎◌, inl, inr, ℕ, ◌==◌, ◌∷◌, Bool, true, false, nat_le}
use Rattle.std.proofs.Common.{Option, Some, None, option_and_then, refl, sym, ap, subst}
use Rattle.std.proofs.Common.{if◌then◌else◌}
use Rattle.std.proofs.lemmas.Bool.{cases_eq}
use Rattle.ref_table.specs.Numbered.{entry, part_under}
use Rattle.ref_table.specs.Store.{Store}
use Rattle.ref_table.specs.Performed.{Performed}
use Rattle.ref_table.specs.Calls.{performed}
use Rattle.server_rules.specs.Ground.{Ground}
use Rattle.server_rules.specs.Tenant.{unoccupied, seat_of}
use Rattle.server_rules.specs.Plan.{Deed, tenant_opened, Outcome, refuses, leaves}
use Rattle.server_rules.specs.Deeds.{plan}
use Rattle.server_rules.specs.Isolation.Privacy.{IsAccepted}
use Rattle.server_rules.specs.Machine.World.{TenantData, World, Step, opens, does, closes, Stepped}
use Rattle.server_rules.specs.Machine.World.{accepted, refused, opened_tenant, is_used, open_count}
use Rattle.server_rules.specs.Machine.World.{open_step, ended_as, deed_step, close_step, step}
use Rattle.server_rules.specs.Machine.World.{world_or}
use Rattle.server_rules.specs.declared.actor.Actor.{Actor}
use Rattle.server_rules.specs.declared.refusal.Refusal.{Refusal}
use Rattle.server_rules.proofs.Steps.{room}
use Rattle.tenant_world.specs.Running.{running_of, running_in}
use Rattle.repl_core.specs.Standing.{open_in, store_in}
use Rattle.repl_core.specs.Commits.{point_in}
use Rattle.repl_core.specs.AttemptsUnderWay.{form_in}
use Rattle.repl_core.proofs.Places.{open-mine, open-others}
use Rattle.repl_core.proofs.ActorSteps.{IsFresh, AskedBy, Moves, Leaves, plan-moves}

-- The step was an ask of the actor's, and was accepted.
pub record Asks (g : Ground) (w : World) (s : Step) (x : Stepped) (t : ℕ) (a : Actor)
    : Type 0 where
  pub kept : TenantData
  pub there : open_in t w ≡ Some kept
  pub deed : Deed
  pub is : s ≡ does t deed
  pub accepted : IsAccepted x
  pub asked : AskedBy g a kept.state (store_in w.around t kept.mine) deed
      (form_in t a (world_or w x)) (point_in t a (world_or w x))

-- the form and the point are as they were, or a form begins, or the form is over, or it asked
abbrev pub StepMoves : Ground → World → Step → Stepped → ℕ → Actor → Type 0
StepMoves g w s x t a =
    ((form_in t a (world_or w x) ≡ form_in t a w)
    × (point_in t a (world_or w x) ≡ point_in t a w))
    ⊎ (((form_in t a w ≡ None) × IsFresh (form_in t a (world_or w x))
    × (point_in t a (world_or w x) ≡ point_in t a w))
    ⊎ (((form_in t a (world_or w x) ≡ None) × (point_in t a (world_or w x) ≡ None))
    ⊎ Asks g w s x t a))

module _ (g : Ground) (w : World) (s : Step) (x : Stepped) (t : ℕ) (a : Actor) where
  form_by : (o p : Option TenantData) → o ≡ p
      → option_and_then (λ kept. running_in a kept.state) o
      ≡ option_and_then (λ kept. running_in a kept.state) p
  form_by o p e = ap (option_and_then (λ kept. running_in a kept.state)) e

  point_by : (o p : Option TenantData) → o ≡ p
      → option_and_then (λ kept. part_under (seat_of a) kept.mine.points) o
      ≡ option_and_then (λ kept. part_under (seat_of a) kept.mine.points) p
  point_by o p e = ap (option_and_then (λ kept. part_under (seat_of a) kept.mine.points)) e

  same-open : open_in t (world_or w x) ≡ open_in t w → StepMoves g w s x t a
  same-open e = inl (form_by _ _ e, point_by _ _ e)

  gone-open : open_in t (world_or w x) ≡ None → StepMoves g w s x t a
  gone-open e = inr (inr (inl (form_by _ None e, point_by _ None e)))

  -- a tenant that was just opened
  new-open : (part : TenantData) → open_in t (world_or w x) ≡ Some part
      → running_in a part.state ≡ None → part_under (seat_of a) part.mine.points ≡ None
      → StepMoves g w s x t a
  new-open part e none no_point =
      inr (inr (inl (form_by _ (Some part) e ∙ none, point_by _ (Some part) e ∙ no_point)))

  mine-open : (d : Deed) (kept part : TenantData) → s ≡ does t d → open_in t w ≡ Some kept
      → open_in t (world_or w x) ≡ Some part → IsAccepted x
      → Moves g a kept.state (store_in w.around t kept.mine) d (running_in a part.state)
      (part_under (seat_of a) part.mine.points)
      → StepMoves g w s x t a
  mine-open d kept part is there after good moves = by moves
    where
      f : form_in t a (world_or w x) ≡ running_in a part.state
      f = form_by _ (Some part) after

      p : point_in t a (world_or w x) ≡ part_under (seat_of a) part.mine.points
      p = point_by _ (Some part) after

      old_f : form_in t a w ≡ running_in a kept.state
      old_f = form_by _ (Some kept) there

      old_p : point_in t a w ≡ part_under (seat_of a) kept.mine.points
      old_p = point_by _ (Some kept) there

      by : Moves g a kept.state (store_in w.around t kept.mine) d (running_in a part.state)
          (part_under (seat_of a) part.mine.points) → StepMoves g w s x t a
      by (inl m) = inl (f ∙ m.0 ∙ sym old_f, p ∙ m.1 ∙ sym old_p)
      by (inr (inl m)) =
          inr (inl (old_f ∙ m.0, subst IsFresh (sym f) m.1, p ∙ m.2 ∙ sym old_p))
      by (inr (inr (inl m))) = inr (inr (inl (f ∙ m.0, p ∙ m.1)))
      by (inr (inr (inr m))) = inr (inr (inr (record {
        kept = kept;
        there = there;
        deed = d;
        is = is;
        accepted = good;
        asked = record {
          form = m.form;
          runs = m.runs;
          ask = m.ask;
          told = m.told;
          is = m.is;
          tells = m.tells;
          form_after = f ∙ m.form_after;
          point_after = p ∙ m.point_after;
        };
      })))

module _ (g : Ground) (w : World) (t : ℕ) (a : Actor) where
  ended-mine : (d : Deed) (kept : TenantData) (new : Store) (o : Outcome) → open_in t w ≡ Some kept
      → Leaves (Moves g a kept.state (store_in w.around t kept.mine) d) a new o
      → StepMoves g w (does t d) (ended_as w t new o) t a
  ended-mine d kept new (refuses why) there moves = inl (refl, refl)
  ended-mine d kept new (leaves q answer) there moves =
      let part : TenantData = record { state = q; mine = new.mine } in
      mine-open g w (does t d) (ended_as w t new (leaves q answer)) t a d kept part refl there
      (open-mine w new.around t (Some part) kept there) tt moves

  ended-other : (u : ℕ) (d : Deed) (kept : TenantData) (new : Store) (o : Outcome) → t ≢ u
      → open_in u w ≡ Some kept → StepMoves g w (does u d) (ended_as w u new o) t a
  ended-other u d kept new (refuses why) apart there = inl (refl, refl)
  ended-other u d kept new (leaves q answer) apart there =
      let part : TenantData = record { state = q; mine = new.mine } in
      same-open g w (does u d) (ended_as w u new (leaves q answer)) t a
      (open-others w new.around u t (Some part) kept there apart)

deed-moves : (g : Ground) (w : World) (u : ℕ) (d : Deed) (t : ℕ) (a : Actor)
    (o : Option (Option TenantData)) → part_under u w.tenants ≡ o
    → StepMoves g w (does u d) (deed_step g w u d o) t a
deed-moves g w u d t a None is = inl (refl, refl)
deed-moves g w u d t a (Some None) is = inl (refl, refl)
deed-moves g w u d t a (Some (Some kept)) is = by (cases_eq t u)
  where
    there : open_in u w ≡ Some kept
    there = ap (option_and_then (λ part. part)) is

    called : Performed Store
    called = performed (store_in w.around u kept.mine) (plan g u kept.state d).call

    by : (t ≡ u) ⊎ (t ≢ u)
        → StepMoves g w (does u d) (deed_step g w u d (Some (Some kept))) t a
    by (inl same) =
        subst (λ k. StepMoves g w (does u d) (deed_step g w u d (Some (Some kept))) k a) (sym same)
        (ended-mine g w u a d kept called.store ((plan g u kept.state d).next called.told) there
        (plan-moves g a kept.state (store_in w.around u kept.mine) u d))
    by (inr apart) = ended-other g w t a u d kept called.store
        ((plan g u kept.state d).next called.told) apart there

opened-none : (g : Ground) (a : Actor) → running_in a (opened_tenant g).state ≡ None
opened-none g a = by (seat_of a == 0) (seat_of a == 1)
  where
    by : (b c : Bool)
        → running_of (if b then Some unoccupied else if c then Some unoccupied else None) ≡ None
    by true c = refl
    by false true = refl
    by false false = refl

open-moves : (g : Ground) (w : World) (u t : ℕ) (a : Actor)
    → StepMoves g w (opens u) (open_step g w u) t a
open-moves g w u t a = by (is_used u w.tenants)
  where
    opened : World
    opened = record w { tenants = entry u (Some (opened_tenant g)) ∷ w.tenants }

    found : Bool → Option TenantData
    found b = option_and_then (λ part. part)
        (if b then Some (Some (opened_tenant g)) else part_under t w.tenants)

    added : (b : Bool) → (t == u) ≡ b
        → StepMoves g w (opens u) (accepted opened tenant_opened) t a
    added true same = new-open g w (opens u) (accepted opened tenant_opened) t a (opened_tenant g)
        (ap found same) (opened-none g a) refl
    added false apart =
        same-open g w (opens u) (accepted opened tenant_opened) t a (ap found apart)

    full : (b : Bool) → StepMoves g w (opens u) (room g w u b) t a
    full true = inl (refl, refl)
    full false = added (t == u) refl

    by : (b : Bool) → StepMoves g w (opens u) (if b then refused Refusal.NumberUsed
        else room g w u (nat_le g.places (open_count w.tenants))) t a
    by true = inl (refl, refl)
    by false = full (nat_le g.places (open_count w.tenants))

close-moves : (g : Ground) (w : World) (u t : ℕ) (a : Actor) (o : Option (Option TenantData))
    → part_under u w.tenants ≡ o → StepMoves g w (closes u) (close_step w u o) t a
close-moves g w u t a None is = inl (refl, refl)
close-moves g w u t a (Some None) is = inl (refl, refl)
close-moves g w u t a (Some (Some kept)) is = by (cases_eq t u)
  where
    there : open_in u w ≡ Some kept
    there = ap (option_and_then (λ part. part)) is

    by : (t ≡ u) ⊎ (t ≢ u)
        → StepMoves g w (closes u) (close_step w u (Some (Some kept))) t a
    by (inl same) =
        subst (λ k. StepMoves g w (closes u) (close_step w u (Some (Some kept))) k a) (sym same)
        (gone-open g w (closes u) (close_step w u (Some (Some kept))) u a
        (open-mine w w.around u None kept there))
    by (inr apart) = same-open g w (closes u) (close_step w u (Some (Some kept))) t a
        (open-others w w.around u t None kept there apart)

pub step-moves : (g : Ground) (w : World) (s : Step) (t : ℕ) (a : Actor)
    → StepMoves g w s (step g w s) t a
unfolding step
step-moves g w (opens u) t a = open-moves g w u t a
step-moves g w (does u d) t a = deed-moves g w u d t a (part_under u w.tenants) refl
step-moves g w (closes u) t a = close-moves g w u t a (part_under u w.tenants) refl
