-- A start of the actor that `ready` names finds something to do.
use Rattle.std.proofs.Common.{◌≡◌, ℕ, zero, suc, ◌==◌, List, [], ◌∷◌, Bool, true, false, not}
use Rattle.std.proofs.Common.{if◌then◌else◌, Option, Some, None, is_some, refl, sym, ap, ◌∙◌}
use Rattle.std.proofs.Common.{subst}
use Rattle.std.specs.Prelude.{⊤, option_map, find}
use Rattle.std.proofs.lemmas.Bool.{eqb-true, false≢true}
use Rattle.repl_asks.specs.Exchange.{AnswerData}
use Rattle.ref_table.specs.Numbered.{Entry, part_under}
use Rattle.ref_table.specs.Store.{Store}
use Rattle.ref_table.specs.Calls.{performed}
use Rattle.server_rules.specs.Ground.{Ground}
use Rattle.server_rules.specs.Request.{Waiting, WorkInHand}
use Rattle.server_rules.specs.Tenant.{ActorData, actor_at, seat_of, TenantState, is_held}
use Rattle.server_rules.specs.Starting.{interrupted_in, held_or, start_in_hand, start_waiting}
use Rattle.server_rules.specs.Deeds.{start_of, for_actor, unless_worn, plan}
use Rattle.server_rules.specs.Plan.{starts, Outcome, refuses, leaves, Plan, quietly}
use Rattle.server_rules.specs.Machine.Ready.{has_waiting, may_begin, has_work, ready}
use Rattle.server_rules.specs.Machine.World.{TenantData, World, does, ended_as, deed_step, step}
use Rattle.server_rules.specs.Machine.Laws.{MayRefuseWork, FoundWork}
use Rattle.server_rules.specs.declared.actor.Actor.{Actor}
use Rattle.server_rules.specs.declared.refusal.Refusal.{Refusal}
use Rattle.server_rules.proofs.Numbered.{none-some, some-same}
use Rattle.server_rules.proofs.Rising.{found}
use Rattle.server_rules.proofs.Seats.{IsSeated, SeatedPart, SeatedWorld}
use Rattle.server_rules.proofs.Steps.{store_of}

abbrev Begins : TenantState → Outcome → Type 0
Begins q (refuses why) = MayRefuseWork q why
Begins q (leaves after answer) = ⊤

abbrev BeginsBy : TenantState → Plan → Type 0
BeginsBy q p = (told : Option AnswerData) → Begins q (p.next told)

-- An actor that may begin

held-begins : (q : TenantState) (outcome : Outcome) → Begins q outcome → Begins q (held_or q outcome)
held-begins q outcome h = by (is_held q) refl where
  by : (b : Bool) → is_held q ≡ b → Begins q (if b then refuses Refusal.Held else outcome)
  by true e = e
  by false e = h

waiting-begins
    : (g : Ground) (a : Actor) (actor : ActorData) (q : TenantState) (ws : List Waiting)
    → has_waiting ws ≡ true → Begins q (start_waiting g a actor q ws)
waiting-begins g a actor q [] e = absurd (false≢true e)
waiting-begins g a actor q (w ∷ ws) e = held-begins q _ tt

in_hand-begins
    : (g : Ground) (a : Actor) (actor : ActorData) (h : WorkInHand) (q : TenantState) (runs : Bool)
    → not runs ≡ true → Begins q (start_in_hand g a actor h q runs)
in_hand-begins g a actor h q true e = absurd (false≢true e)
in_hand-begins g a actor h q false e = by actor.is_closed _ (held-begins q _ tt) where
  by : (b : Bool) (outcome : Outcome) → Begins q outcome
      → Begins q (if b then interrupted_in a h q else outcome)
  by true outcome begins = tt
  by false outcome begins = begins

start_of-begins
    : (g : Ground) (a : Actor) (actor : ActorData) (q : TenantState) (h : Option WorkInHand)
    → may_begin actor.waiting h ≡ true → Begins q (start_of g a actor q h)
start_of-begins g a actor q None e = waiting-begins g a actor q actor.waiting e
start_of-begins g a actor q (Some h) e = in_hand-begins g a actor h q (is_some h.running) e

worn-begins : (q : TenantState) (p : Plan) → BeginsBy q p → BeginsBy q (unless_worn q p)
worn-begins q p h = by (q.steps == 0) refl where
  by : (b : Bool) → (q.steps == 0) ≡ b
      → BeginsBy q (if b then quietly (refuses Refusal.Worn) else p)
  by true e = λ told. eqb-true q.steps 0 e
  by false e = h

plan-begins
    : (g : Ground) (t : ℕ) (q : TenantState) (a : Actor) (actor : ActorData)
    → part_under (seat_of a) q.actors ≡ Some actor → may_begin actor.waiting actor.hand ≡ true
    → BeginsBy q (plan g t q (starts a))
plan-begins g t q a actor here e =
    let one : ActorData → Plan = λ actor. quietly (start_of g a actor q actor.hand) in
    worn-begins q (for_actor (part_under (seat_of a) q.actors) one)
    (subst (λ found. BeginsBy q (for_actor found one)) (sym here)
    (λ told. start_of-begins g a actor q actor.hand e))

-- The actor that is named

seat-at : (n : ℕ) → seat_of (actor_at n) ≡ n
seat-at zero = refl
seat-at (suc zero) = refl
seat-at (suc (suc n)) = refl

record Named (found : Option (Entry ActorData)) (a : Actor) : Type 0 where
  named : Entry ActorData
  there : found ≡ Some named
  same : actor_at named.number ≡ a

named-by : (found : Option (Entry ActorData)) (a : Actor)
    → option_map (λ e. actor_at e.number) found ≡ Some a → Named found a
named-by None a e = absurd (none-some e)
named-by (Some named) a e =
    record { named = named; there = refl; same = some-same (actor_at named.number) a e }

ready-begins : (g : Ground) (t : ℕ) (q : TenantState) (a : Actor) → IsSeated q → ready q ≡ Some a
    → BeginsBy q (plan g t q (starts a))
ready-begins g t q a seated e =
    let first = named-by (find has_work q.actors) a e in
    let works = found has_work 0 (suc (suc q.sessions.opened)) q.actors first.named seated first.there in
    let seat : first.named.number ≡ seat_of a =
    sym (seat-at first.named.number) ∙ ap seat_of first.same in
    plan-begins g t q a first.named.part
    (subst (λ n. part_under n q.actors ≡ Some first.named.part) seat works.under) works.passes

-- Its start on the whole server

ended-found : (w : World) (t : ℕ) (q : TenantState) (s : Store) (o : Outcome) → Begins q o
    → FoundWork q (ended_as w t s o)
ended-found w t q s (refuses why) h = h
ended-found w t q s (leaves after answer) h = tt

pub start-found
    : (g : Ground) (w : World) (t : ℕ) (tenant : TenantData) (a : Actor) → SeatedWorld w
    → part_under t w.tenants ≡ Some (Some tenant) → ready tenant.state ≡ Some a
    → FoundWork tenant.state (step g w (does t (starts a)))
unfolding step
start-found g w t tenant a seated here e =
    let mine : IsSeated tenant.state = subst SeatedPart here (seated t) in
    let p : Plan = plan g t tenant.state (starts a) in
    let called = performed (store_of w t tenant) p.call in
    subst (λ part. FoundWork tenant.state (deed_step g w t (starts a) part)) (sym here)
    (ended-found w t tenant.state called.store (p.next called.told)
    (ready-begins g t tenant.state a mine e called.told))
