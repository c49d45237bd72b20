-- The evaluations of all forms that run, through steps by which none goes on.
use Rattle.std.proofs.Common.{◌≡◌, ◌≢◌, ℕ, ◌==◌, ◌∷◌, Bool, true, false, Option, Some, None}
use Rattle.std.proofs.Common.{option_and_then, refl, sym, ap, subst, ◌∙◌, if◌then◌else◌, nat_le}
use Rattle.std.proofs.lemmas.Bool.{eq-eqb}
use Rattle.server_rules.specs.Ground.{Ground}
use Rattle.ref_table.specs.Numbered.{entry, part_under}
use Rattle.server_rules.specs.Plan.{Deed, StepAnswer, tenant_opened}
use Rattle.server_rules.specs.Tenant.{unoccupied, seat_of, opened_state}
use Rattle.server_rules.specs.Machine.Turns.{whose_step}
use Rattle.server_rules.specs.Machine.World as worlds
use Rattle.server_rules.specs.Machine.World.{TenantData, World, Stepped, accepted, refused, step, world_or}
use Rattle.server_rules.specs.Machine.World.{opens, does, closes, open_step, opened_tenant, is_used}
use Rattle.server_rules.specs.Machine.World.{open_count}
use Rattle.server_rules.specs.declared.actor.Actor.{Actor}
use Rattle.server_rules.specs.declared.refusal.Refusal.{Refusal}
use Rattle.server_rules.proofs.Steps.{step-other}
use Rattle.tenant_parts.proofs.EntryLaws.{found_first}
use Rattle.repl_core.specs.declared.walks.Walks.{Walks}
use Rattle.tenant_world.specs.Running.{running_of, running_in}
use Rattle.repl_core.specs.Going.{KeepsForms, StepKeepsForms}
use Rattle.repl_core.specs.Standing.{open_in}
use Rattle.repl_core.proofs.Worlds.{close-none, close-some}
use Rattle.repl_core.proofs.GoingOn.{same-world, deed-walked}
use Rattle.repl_core.proofs.Places.{all-places, open-mine}
use Rattle.machine_runs.specs.AllWalks.{IsWalkedAt}

-- what an accepted step leaves of another tenant
others-open : (g : Ground) (w after : World) (s : worlds.Step) (answer : StepAnswer) (u : ℕ)
    → step g w s ≡ accepted after answer → u ≢ whose_step s → open_in u after ≡ open_in u w
others-open g w after s answer u is apart =
    ap (option_and_then (λ part. part))
    (sym (ap (λ it. part_under u (world_or w it).tenants) is) ∙ step-other g w s u apart)

-- an opened tenant runs no form
opened-runs : (g : Ground) (a : Actor) → running_in a (opened_state g) ≡ None
opened-runs g a = by (seat_of a == 0) (seat_of a == 1)
  where
    by : (b c : Bool)
        → running_of (found_first b unoccupied (found_first c unoccupied None)) ≡ None
    by true c = refl
    by false true = refl
    by false false = refl

opened-walked : (g : Ground) (o : Option Walks) → IsWalkedAt o (Some (opened_tenant g))
opened-walked g None = tt
opened-walked g (Some walks) = λ a run p runs at.
    let never : None ≡ Some run = sym (opened-runs g a) ∙ runs in absurd (cc)

gone-walked : (o : Option Walks) → IsWalkedAt o None
gone-walked None = tt
gone-walked (Some walks) = tt

-- Coming

open-by : (g : Ground) (w : World) (t : ℕ) → step g w (opens t) ≡ open_step g w t
unfolding step
open-by g w t = refl

abbrev opened : Ground → World → ℕ → Bool → Bool → Stepped
opened g w t used full =
    if used then refused Refusal.NumberUsed
    else if full then refused Refusal.Full
    else accepted (record w { tenants = entry t (Some (opened_tenant g)) ∷ w.tenants }) tenant_opened

open-walked : (g : Ground) (w after : World) (t : ℕ) (answer : StepAnswer) (o : Option Walks)
    → step g w (opens t) ≡ accepted after answer → IsWalkedAt o (open_in t after)
open-walked g w after t answer o is =
    by (is_used t w.tenants) (nat_le g.places (open_count w.tenants)) (sym (open-by g w t) ∙ is)
  where
    first : (b : Bool) → (t == t) ≡ b
        → open_in t (record w { tenants = entry t (Some (opened_tenant g)) ∷ w.tenants })
        ≡ option_and_then (λ part. part) (found_first b (Some (opened_tenant g)) (part_under t w.tenants))
    first b e = ap (λ (x : Bool). option_and_then (λ part. part)
        (found_first x (Some (opened_tenant g)) (part_under t w.tenants))) e

    by : (used full : Bool) → opened g w t used full ≡ accepted after answer
        → IsWalkedAt o (open_in t after)
    by true full never = absurd (cc)
    by false true never = absurd (cc)
    by false false same =
        subst (λ x. IsWalkedAt o (open_in t x)) (same-world _ after _ answer same)
        (subst (IsWalkedAt o) (sym (first true (eq-eqb t t refl))) (opened-walked g o))

-- Going

close-walked : (g : Ground) (w after : World) (t : ℕ) (answer : StepAnswer) (o : Option Walks)
    → step g w (closes t) ≡ accepted after answer → IsWalkedAt o (open_in t after)
close-walked g w after t answer o is = by (open_in t w) refl
  where
    by : (it : Option TenantData) → open_in t w ≡ it → IsWalkedAt o (open_in t after)
    by None none =
        let never : refused Refusal.NoSuchTenant ≡ accepted after answer =
        sym (close-none g w t none) ∙ is in absurd (cc)
    by (Some kept) there =
        subst (λ x. IsWalkedAt o (open_in t x))
        (same-world _ after _ answer (sym (close-some g w t kept there) ∙ is))
        (subst (IsWalkedAt o) (sym (open-mine w w.around t None kept there)) (gone-walked o))

-- Deeds

deed-walked-at : (g : Ground) (w after : World) (t : ℕ) (d : Deed) (answer : StepAnswer)
    (o : Option Walks) → KeepsForms d → step g w (does t d) ≡ accepted after answer
    → IsWalkedAt o (open_in t w) → IsWalkedAt o (open_in t after)
deed-walked-at g w after t d answer None keeps is walked = tt
deed-walked-at g w after t d answer (Some walks) keeps is walked =
    deed-walked g w after t d answer walks keeps is walked

own-walked : (g : Ground) (w after : World) (s : worlds.Step) (answer : StepAnswer)
    (o : Option Walks) → StepKeepsForms s → step g w s ≡ accepted after answer
    → IsWalkedAt o (open_in (whose_step s) w) → IsWalkedAt o (open_in (whose_step s) after)
own-walked g w after (opens t) answer o keeps is walked = open-walked g w after t answer o is
own-walked g w after (does t d) answer o keeps is walked =
    deed-walked-at g w after t d answer o keeps is walked
own-walked g w after (closes t) answer o keeps is walked = close-walked g w after t answer o is

-- All

pub all-walked : (g : Ground) (w after : World) (s : worlds.Step) (answer : StepAnswer)
    (walks : ℕ → Option Walks) → StepKeepsForms s → step g w s ≡ accepted after answer
    → ((u : ℕ) → IsWalkedAt (walks u) (open_in u w))
    → (u : ℕ) → IsWalkedAt (walks u) (open_in u after)
all-walked g w after s answer walks keeps is walked =
    all-places (λ u. IsWalkedAt (walks u) (open_in u after)) (whose_step s)
    (own-walked g w after s answer (walks (whose_step s)) keeps is (walked (whose_step s)))
    (λ u apart e. subst (IsWalkedAt (walks u)) (sym (others-open g w after s answer u is apart))
    (walked u))

-- those of one tenant are others, and all the rest stay
pub walked-with : (g : Ground) (w after : World) (t : ℕ) (d : Deed) (answer : StepAnswer)
    (old new : ℕ → Option Walks) → step g w (does t d) ≡ accepted after answer
    → IsWalkedAt (new t) (open_in t after) → ((u : ℕ) → u ≢ t → new u ≡ old u)
    → ((u : ℕ) → IsWalkedAt (old u) (open_in u w))
    → (u : ℕ) → IsWalkedAt (new u) (open_in u after)
walked-with g w after t d answer old new is mine others walked =
    all-places (λ u. IsWalkedAt (new u) (open_in u after)) t mine
    (λ u apart e. subst (λ o. IsWalkedAt o (open_in u after)) (sym (others u apart))
    (subst (IsWalkedAt (old u)) (sym (others-open g w after (does t d) answer u is apart))
    (walked u)))

pub walked-still : (w : World) (t : ℕ) (old new : ℕ → Option Walks)
    → IsWalkedAt (new t) (open_in t w) → ((u : ℕ) → u ≢ t → new u ≡ old u)
    → ((u : ℕ) → IsWalkedAt (old u) (open_in u w)) → (u : ℕ) → IsWalkedAt (new u) (open_in u w)
walked-still w t old new mine others walked =
    all-places (λ u. IsWalkedAt (new u) (open_in u w)) t mine
    (λ u apart e. subst (λ o. IsWalkedAt o (open_in u w)) (sym (others u apart)) (walked u))
