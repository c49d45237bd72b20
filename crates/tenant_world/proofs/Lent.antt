-- The state of an actor is lent, or its step is refused.
use Rattle.std.proofs.Common.{◌≡◌, ℕ, suc, Bool, true, false, Option, None, Some, Result, Err, OnErr}
use Rattle.std.proofs.Common.{refl, ap, subst, ◌∙◌, if◌then◌else◌, List}
use Rattle.ref_table.specs.Numbered.{Entry, with_part}
use Rattle.server_rules.specs.Tenant.{ActorData}
use Rattle.server_rules.specs.declared.refusal.Refusal.{Refusal}
use Rattle.tenant_parts.specs.Busy.{is_busy}
use Rattle.server_rules.specs.declared.actor.Actor.{Actor}
use Rattle.tenant_parts.specs.Lent.{MayBeLent}
use Rattle.tenant_world.specs.Lending.{unlent}
use Rattle.tenant_world.specs.Seats.{are_below}
use Rattle.tenant_world.proofs.Seating.{below-with_part}

busy-so : (b : Bool) → None ≡ (if b then None else Some Refusal.Idle) → b ≡ true
busy-so true h = refl
busy-so false h = absurd (cc)

pub lent-busy : (a : Actor) (b : Bool) (found : Option ActorData) → None ≡ unlent a b found
    → MayBeLent a found
lent-busy Actor.Agents b found h = tt
lent-busy Actor.Bare b None h = tt
lent-busy Actor.Bare true (Some actor) h = absurd (cc)
lent-busy Actor.Bare false (Some actor) h = busy-so (is_busy actor) h
lent-busy (Actor.Session n) b None h = tt
lent-busy (Actor.Session n) true (Some actor) h = absurd (cc)
lent-busy (Actor.Session n) false (Some actor) h = busy-so (is_busy actor) h

pub lent-there : (a : Actor) (b : Bool) → None ≡ unlent a b None → ⊥
lent-there a true h = absurd (cc)
lent-there a false h = absurd (cc)

pub err-so : {X E A : Type 0} {r : Result X E} {e : E} → r ≡ Err e → OnErr r A → A
err-so {A = A} is so = subst (λ x. OnErr x A) is so

-- behind a step all actors still have seats of sessions that were made
pub still-seated : (seat : ℕ) (x : ActorData) (m n : ℕ) (es fs : List (Entry ActorData)) → n ≡ m
    → fs ≡ with_part seat x es → are_below (suc (suc m)) es ≡ true
    → are_below (suc (suc n)) fs ≡ true
still-seated seat x m n es fs opened put seated =
    ap (λ k. are_below (suc (suc k)) fs) opened ∙ ap (are_below (suc (suc m))) put
    ∙ below-with_part (suc (suc m)) seat x es seated
