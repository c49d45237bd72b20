-- One step: another tenant's leaves a view, a tenant's own is a step of its view.
use Rattle.std.proofs.Common.{◌≡◌, ◌≢◌, ℕ, ◌≤◌, List, [], ◌∷◌, Bool, true, false, if◌then◌else◌}
use Rattle.std.proofs.Common.{Option, Some, None, refl, sym, ap, ◌∙◌, subst, ◌==◌, nat_le, arith}
use Rattle.std.proofs.Common.{inl, inr, ◌&&◌}
use Rattle.std.specs.Prelude.{option_map, ⊤}
use Rattle.std.proofs.lemmas.Bool.{ne_eqb, cases_eq}
use Rattle.repl_asks.specs.Exchange as exchange
use Rattle.repl_asks.specs.Exchange.{AskData}
use Rattle.ref_table.specs.Numbered.{Entry, entry, part_under, with_part}
use Rattle.ref_table.specs.Store.{Store}
use Rattle.ref_table.specs.Performed.{Performed}
use Rattle.ref_table.specs.Calls.{nothing, inside, gives_up, performed}
use Rattle.server_rules.specs.Ground.{Ground}
use Rattle.server_rules.specs.Request.{WorkInHand, Run}
use Rattle.server_rules.specs.Tenant.{ActorData, seat_of, TenantState, is_held}
use Rattle.server_rules.specs.Plan.{Deed, hears, starts, asks_for, ends, drains}
use Rattle.repl_asks.specs.Job.{EndingData}
use Rattle.server_rules.specs.Plan.{StepAnswer, tenant_opened, Outcome, refuses, leaves, Plan}
use Rattle.server_rules.specs.Plan.{quietly}
use Rattle.server_rules.specs.Starting.{interrupted_in}
use Rattle.server_rules.specs.Asking.{call_of, may_ask, is_allowed, asked_allowed, asked_running, asked_of}
use Rattle.server_rules.specs.Asking.{when_told, answer_outcome}
use Rattle.server_rules.specs.Ending.{with_left_attempt, end_compared, end_checked, end_running}
use Rattle.server_rules.specs.Ending.{end_of}
use Rattle.server_rules.specs.Deeds.{for_actor, unless_worn, plan}
use Rattle.server_rules.specs.Machine.World.{TenantData, World, Step, opens, does, closes, Stepped}
use Rattle.server_rules.specs.Machine.World.{accepted, refused, is_used, open_count, opened_tenant}
use Rattle.server_rules.specs.Machine.World.{open_step, ended_as, deed_step}
use Rattle.server_rules.specs.Machine.World.{close_step, step, world_or}
use Rattle.server_rules.specs.Machine.Turns.{whose_step}
use Rattle.server_rules.specs.Isolation.View.{Seen, seen_of, View, part_view, view_for}
use Rattle.server_rules.specs.Isolation.Privacy.{IsPrivate, NamesNoShared}
use Rattle.server_rules.specs.declared.actor.Actor.{Actor}
use Rattle.server_rules.specs.declared.refusal.Refusal.{Refusal}
use Rattle.server_rules.proofs.Numbered.{part_under-other, part_under-new}
use Rattle.server_rules.proofs.Seen.{performed_seen, IsPrivateCall}
use Rattle.server_rules.proofs.Sound.{Sound, Sound-higher, Rises, performed-rises}
use Rattle.server_rules.proofs.Calls.{performed-seen_of}

-- The step on views

pub data SeenStepped : Type 0 where
  not_done : Refusal → SeenStepped
  done_so : Option (Option View) → StepAnswer → SeenStepped

abbrev pub ended_seen : Seen → Outcome → SeenStepped
ended_seen s (refuses why) = not_done why
ended_seen s (leaves q answer) = done_so (Some (Some (record { state = q; mine = s }))) answer

abbrev pub done_seen : Plan → Performed Seen → SeenStepped
done_seen p called = ended_seen called.store (p.next called.told)

abbrev pub step_seen : Ground → ℕ → Option (Option View) → Deed → SeenStepped
step_seen g t None d = not_done Refusal.NoSuchTenant
step_seen g t (Some None) d = not_done Refusal.NoSuchTenant
step_seen g t (Some (Some v)) d =
    let p = plan g t v.state d in done_seen p (performed_seen t v.mine p.call)

abbrev pub seen_step : ℕ → Stepped → SeenStepped
seen_step t (refused why) = not_done why
seen_step t (accepted w answer) = done_so (view_for t w) answer

-- A deed that names no shared ref calls none

worn-private : (q : TenantState) (p : Plan) → IsPrivateCall p.call
    → IsPrivateCall (unless_worn q p).call
worn-private q p h =
    elim (q.steps == 0)
    as (λ b. IsPrivateCall (if b then quietly (refuses Refusal.Worn) else p).call) [
      | true ↦ tt
      | false ↦ h
    ]

actor-private : (a : Option ActorData) (p : ActorData → Plan)
    → ((actor : ActorData) → IsPrivateCall (p actor).call) → IsPrivateCall (for_actor a p).call
actor-private None p h = tt
actor-private (Some a) p h = h a

call-private : (seat : ℕ) (ask : AskData) → IsPrivate ask → IsPrivateCall (call_of seat ask)
call-private seat (exchange.resolve namespace symbol) h = tt
call-private seat (exchange.define namespace name b) h = tt
call-private seat (exchange.enter name) h = tt
call-private seat (exchange.new_ref d least most) h = tt
call-private seat exchange.begin h = tt
call-private seat (exchange.read name) h = h
call-private seat (exchange.history name) h = h
call-private seat (exchange.min_history name None) h = h
call-private seat (exchange.min_history name (Some n)) h = h
call-private seat (exchange.max_history name None) h = h
call-private seat (exchange.max_history name (Some n)) h = h
call-private seat (exchange.commit intent) h = h
call-private seat (exchange.new_atom d) h = tt
call-private seat (exchange.read_atom n) h = tt
call-private seat (exchange.set_atom n d) h = tt
call-private seat (exchange.try_atom n seen next) h = tt
call-private seat (exchange.new_agent d) h = tt
call-private seat (exchange.read_agent n) h = tt
call-private seat (exchange.agent_fault n) h = tt
call-private seat (exchange.restart_agent n d) h = tt
call-private seat (exchange.send s) h = tt
call-private seat (exchange.may_send s) h = by (seat == seat_of Actor.Agents) where
  by : (b : Bool) → IsPrivateCall (if b then nothing else inside seat)
  by true = tt
  by false = tt
call-private seat (exchange.await ns) h = tt

allowed-private
    : (g : Ground) (a : Actor) (actor : ActorData) (h : WorkInHand) (run : Run) (ask : AskData)
    (q : TenantState) → IsPrivate ask → IsPrivateCall (asked_allowed g a actor h run ask q).call
allowed-private g a actor h run ask q private = by actor.is_closed where
  by : (b : Bool) → IsPrivateCall (let p : Plan = (if b
      then record {
        call = gives_up (seat_of a) (call_of (seat_of a) ask);
        next = λ told. when_told told (λ _. interrupted_in a h q);
      }
      else record {
        call = call_of (seat_of a) ask;
        next = λ told. when_told told (answer_outcome g a actor h run ask q);
      }) in p).call
  by true = call-private (seat_of a) ask private
  by false = call-private (seat_of a) ask private

running-private
    : (g : Ground) (a : Actor) (actor : ActorData) (h : WorkInHand) (ask : AskData) (q : TenantState)
    (run : Option Run) → IsPrivate ask → IsPrivateCall (asked_running g a actor h ask q run).call
running-private g a actor h ask q None private = tt
running-private g a actor h ask q (Some run) private =
    elim (may_ask a ask && is_allowed ask q.cells)
    as (λ b. IsPrivateCall
    (if b then asked_allowed g a actor h run ask q else quietly (refuses Refusal.Idle)).call) [
      | true ↦ allowed-private g a actor h run ask q private
      | false ↦ tt
    ]

asked-private
    : (g : Ground) (a : Actor) (actor : ActorData) (ask : AskData) (q : TenantState) (h : Option WorkInHand)
    → IsPrivate ask → IsPrivateCall (asked_of g a actor ask q h).call
asked-private g a actor ask q None private = tt
asked-private g a actor ask q (Some h) private = running-private g a actor h ask q h.running private

compared-private
    : (a : Actor) (actor : ActorData) (h : WorkInHand) (run : Run) (e : EndingData) (q : TenantState)
    (same : Bool) (difference : Option ℕ)
    → IsPrivateCall (end_compared a actor h run e q same difference).call
compared-private a actor h run e q false difference = tt
compared-private a actor h run e q true (Some place) = tt
compared-private a actor h run e q true None = tt

held-private
    : (g : Ground) (a : Actor) (actor : ActorData) (h : WorkInHand) (run : Run) (e : EndingData)
    (q : TenantState) → IsPrivateCall
    (if is_held q then quietly (refuses Refusal.Held) else end_checked g a actor h run e q).call
held-private g a actor h run e q =
    elim (is_held q)
    as (λ b. IsPrivateCall
    (if b then quietly (refuses Refusal.Held) else end_checked g a actor h run e q).call) [
      | true ↦ tt
      | false ↦ compared-private a actor h run e q
          (g.comparisons.is_same_job e.job run.job) (g.comparisons.difference e.trace run.trace)
    ]

end-private
    : (g : Ground) (a : Actor) (actor : ActorData) (h : WorkInHand) (e : EndingData) (q : TenantState)
    (run : Option Run) → IsPrivateCall (end_running g a actor h e q run).call
end-private g a actor h e q None = tt
end-private g a actor h e q (Some run) =
    elim actor.is_closed
    as (λ b. IsPrivateCall (if b then with_left_attempt a (interrupted_in a h q)
    else if is_held q then quietly (refuses Refusal.Held)
    else end_checked g a actor h run e q).call) [
      | true ↦ tt
      | false ↦ held-private g a actor h run e q
    ]

end_of-private
    : (g : Ground) (a : Actor) (actor : ActorData) (e : EndingData) (q : TenantState) (h : Option WorkInHand)
    → IsPrivateCall (end_of g a actor e q h).call
end_of-private g a actor e q None = tt
end_of-private g a actor e q (Some h) = end-private g a actor h e q h.running

plan-private : (g : Ground) (t : ℕ) (q : TenantState) (d : Deed) → NamesNoShared d
    → IsPrivateCall (plan g t q d).call
plan-private g t q (hears piece) h = tt
plan-private g t q (starts a) h =
    worn-private q _ (actor-private (part_under (seat_of a) q.actors) _ (λ actor. tt))
plan-private g t q (asks_for a ask) h =
    worn-private q _ (actor-private (part_under (seat_of a) q.actors) _
    (λ actor. asked-private g a actor ask q actor.hand h))
plan-private g t q (ends a e) h =
    worn-private q _ (actor-private (part_under (seat_of a) q.actors) _
    (λ actor. end_of-private g a actor e q actor.hand))
plan-private g t q drains h = tt

-- What is seen of a deed is the deed over what is seen

ended-seen_of : (w : World) (t : ℕ) (old : Option TenantData) → part_under t w.tenants ≡ Some old
    → (s : Store) (o : Outcome) → seen_step t (ended_as w t s o) ≡ ended_seen (seen_of s.mine) o
ended-seen_of w t old here s (refuses why) = refl
ended-seen_of w t old here s (leaves q answer) =
    ap (λ part. done_so (option_map part_view part) answer)
    (part_under-new t (Some (record { state = q; mine = s.mine })) old w.tenants here)

abbrev pub SoundPart : ℕ → Option (Option TenantData) → Type 0
SoundPart counter None = ⊤
SoundPart counter (Some None) = ⊤
SoundPart counter (Some (Some tenant)) = Sound counter tenant.mine

abbrev pub SoundWorld : World → Type 0
SoundWorld w = (t : ℕ) → SoundPart w.around.counter (part_under t w.tenants)

abbrev pub store_of : World → ℕ → TenantData → Store
store_of w t tenant = record { around = w.around; tenant = t; mine = tenant.mine }

deed-seen
    : (g : Ground) (w : World) (t : ℕ) (d : Deed) (part : Option (Option TenantData))
    → SoundPart w.around.counter part → NamesNoShared d → part_under t w.tenants ≡ part
    → seen_step t (deed_step g w t d part) ≡ step_seen g t (option_map part_view part) d
deed-seen g w t d None sound private here = refl
deed-seen g w t d (Some None) sound private here = refl
deed-seen g w t d (Some (Some tenant)) sound private here =
    let p : Plan = plan g t tenant.state d in
    let called = performed (store_of w t tenant) p.call in
    ended-seen_of w t (Some tenant) here called.store (p.next called.told)
    ∙ ap (done_seen p) (sym (performed-seen_of (store_of w t tenant) p.call sound
    (plan-private g t tenant.state d private)))

pub step-seen
    : (g : Ground) (w : World) (t : ℕ) (d : Deed) → SoundWorld w → NamesNoShared d
    → seen_step t (step g w (does t d)) ≡ step_seen g t (view_for t w) d
unfolding step
step-seen g w t d sound private = deed-seen g w t d (part_under t w.tenants) (sound t) private refl

-- Another tenant's step

abbrev pub room : Ground → World → ℕ → Bool → Stepped
room g w u b =
    if b then refused Refusal.Full
    else accepted (record w { tenants = entry u (Some (opened_tenant g)) ∷ w.tenants }) tenant_opened

open-other : (g : Ground) (w : World) (t u : ℕ) → t ≢ u
    → part_under t (world_or w (open_step g w u)).tenants ≡ part_under t w.tenants
open-other g w t u other =
    elim (is_used u w.tenants)
    as (λ b. part_under t (world_or w (if b then refused Refusal.NumberUsed
    else room g w u (nat_le g.places (open_count w.tenants)))).tenants ≡ part_under t w.tenants) [
      | true ↦ refl
      | false ↦ elim (nat_le g.places (open_count w.tenants))
          as (λ b. part_under t (world_or w (room g w u b)).tenants ≡ part_under t w.tenants) [
            | true ↦ refl
            | false ↦ ap (λ b. if b then Some (Some (opened_tenant g)) else part_under t w.tenants)
                (ne_eqb t u other)
          ]
    ]

ended-other : (w : World) (t u : ℕ) (s : Store) (o : Outcome) → t ≢ u
    → part_under t (world_or w (ended_as w u s o)).tenants ≡ part_under t w.tenants
ended-other w t u s (refuses why) other = refl
ended-other w t u s (leaves q answer) other =
    part_under-other t u (Some (record { state = q; mine = s.mine })) w.tenants other

deed-other
    : (g : Ground) (w : World) (t u : ℕ) (d : Deed) (part : Option (Option TenantData)) → t ≢ u
    → part_under t (world_or w (deed_step g w u d part)).tenants ≡ part_under t w.tenants
deed-other g w t u d None other = refl
deed-other g w t u d (Some None) other = refl
deed-other g w t u d (Some (Some tenant)) other =
    let p : Plan = plan g u tenant.state d in
    let called = performed (store_of w u tenant) p.call in
    ended-other w t u called.store (p.next called.told) other

close-other : (w : World) (t u : ℕ) (part : Option (Option TenantData)) → t ≢ u
    → part_under t (world_or w (close_step w u part)).tenants ≡ part_under t w.tenants
close-other w t u None other = refl
close-other w t u (Some None) other = refl
close-other w t u (Some (Some tenant)) other = part_under-other t u None w.tenants other

pub step-other : (g : Ground) (w : World) (s : Step) (t : ℕ) → t ≢ whose_step s
    → part_under t (world_or w (step g w s)).tenants ≡ part_under t w.tenants
unfolding step
step-other g w (opens u) t other = open-other g w t u other
step-other g w (does u d) t other = deed-other g w t u d (part_under u w.tenants) other
step-other g w (closes u) t other = close-other w t u (part_under u w.tenants) other

-- Soundness

part-new
    : (counter t u : ℕ) (part old : Option TenantData) (es : List (Entry (Option TenantData)))
    → part_under u es ≡ Some old → SoundPart counter (Some part) → SoundPart counter (part_under t es)
    → SoundPart counter (part_under t (with_part u part es))
part-new counter t u part old es here new kept = elim (cases_eq t u) [
  | inl same ↦ subst (λ n. SoundPart counter (part_under n (with_part u part es))) (sym same)
      (subst (SoundPart counter) (sym (part_under-new u part old es here)) new)
  | inr other ↦ subst (SoundPart counter) (sym (part_under-other t u part es other)) kept
]

part-higher : (a b : ℕ) (part : Option (Option TenantData)) → a ≤ b → SoundPart a part
    → SoundPart b part
part-higher a b None above h = tt
part-higher a b (Some None) above h = tt
part-higher a b (Some (Some tenant)) above h = Sound-higher a b tenant.mine above h

ended-sound
    : (w : World) (t : ℕ) (old : Option TenantData) → part_under t w.tenants ≡ Some old
    → SoundWorld w → (s : Store) (o : Outcome) → Rises w.around.counter s
    → SoundWorld (world_or w (ended_as w t s o))
ended-sound w t old here sound s (refuses why) rises = sound
ended-sound w t old here sound s (leaves q answer) rises = λ n.
    part-new s.around.counter n t (Some (record { state = q; mine = s.mine })) old w.tenants here
    rises.sound
    (part-higher w.around.counter s.around.counter (part_under n w.tenants) rises.rises (sound n))

deed-sound
    : (g : Ground) (w : World) (t : ℕ) (d : Deed) (part : Option (Option TenantData))
    → SoundWorld w → SoundPart w.around.counter part → part_under t w.tenants ≡ part
    → SoundWorld (world_or w (deed_step g w t d part))
deed-sound g w t d None sound mine here = sound
deed-sound g w t d (Some None) sound mine here = sound
deed-sound g w t d (Some (Some tenant)) sound mine here =
    let p : Plan = plan g t tenant.state d in
    let s = store_of w t tenant in
    let called = performed s p.call in
    ended-sound w t (Some tenant) here sound called.store (p.next called.told)
    (performed-rises w.around.counter s p.call (record { rises = omega arith; sound = mine }))

close-sound
    : (w : World) (t : ℕ) (part : Option (Option TenantData)) → SoundWorld w
    → part_under t w.tenants ≡ part → SoundWorld (world_or w (close_step w t part))
close-sound w t None sound here = sound
close-sound w t (Some None) sound here = sound
close-sound w t (Some (Some tenant)) sound here = λ n.
    part-new w.around.counter n t None (Some tenant) w.tenants here tt (sound n)

open-sound : (g : Ground) (w : World) (u : ℕ) → SoundWorld w
    → SoundWorld (world_or w (open_step g w u))
open-sound g w u sound =
    elim (is_used u w.tenants)
    as (λ b. SoundWorld (world_or w (if b then refused Refusal.NumberUsed
    else room g w u (nat_le g.places (open_count w.tenants))))) [
      | true ↦ sound
      | false ↦ elim (nat_le g.places (open_count w.tenants))
          as (λ b. SoundWorld (world_or w (room g w u b))) [
            | true ↦ sound
            | false ↦ λ t. elim (t == u)
                as (λ b. SoundPart w.around.counter
                (if b then Some (Some (opened_tenant g)) else part_under t w.tenants)) [
                  | true ↦ record { stamps = tt; points = tt }
                  | false ↦ sound t
                ]
          ]
    ]

pub step-sound : (g : Ground) (w : World) (s : Step) → SoundWorld w
    → SoundWorld (world_or w (step g w s))
unfolding step
step-sound g w (opens u) sound = open-sound g w u sound
step-sound g w (does u d) sound = deed-sound g w u d (part_under u w.tenants) sound (sound u) refl
step-sound g w (closes u) sound = close-sound w u (part_under u w.tenants) sound refl
