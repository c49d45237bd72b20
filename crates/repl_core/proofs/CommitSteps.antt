-- What a step makes of the newest values of refs.
use Rattle.std.proofs.Common.{◌≡◌, ℕ, ◌==◌, ◌∷◌, Bool, true, false, nat_le, Option, Some, None}
use Rattle.std.proofs.Common.{◌&&◌, slice_get, refl, sym, ap, subst, ◌∙◌, if◌then◌else◌}
use Rattle.std.specs.Prelude.{option_and_then}
use Rattle.std.proofs.lemmas.Bool.{eqb-true, eqb-false}
use Rattle.value_data.specs.Datum.{Datum, OwnerData, shared, tenant}
use Rattle.repl_asks.specs.Transactions.{RefNameData}
use Rattle.repl_asks.specs.Exchange as exchange
use Rattle.repl_asks.specs.Exchange.{AskData, AnswerData}
use Rattle.ref_table.specs.Numbered.{entry, part_under}
use Rattle.ref_table.specs.Store.{Store, ref_of, left_attempt}
use Rattle.ref_table.specs.Calls.{gives_up, given_up, performed}
use Rattle.server_rules.specs.Ground.{Ground}
use Rattle.server_rules.specs.Request.{WorkInHand, Run}
use Rattle.server_rules.specs.Tenant.{ActorData, seat_of, TenantState, is_held, actor_state}
use Rattle.server_rules.specs.Plan.{Deed, hears, starts, asks_for, ends, drains}
use Rattle.repl_asks.specs.Job.{EndingData}
use Rattle.server_rules.specs.Plan.{StepAnswer, ask_answered, form_finished, Outcome, refuses}
use Rattle.server_rules.specs.Plan.{leaves, Plan, quietly, with_step_spent}
use Rattle.server_rules.specs.Hearing.{hearing_plan}
use Rattle.server_rules.specs.Moves.{form_ended}
use Rattle.server_rules.specs.Starting.{after_move, interrupted_in}
use Rattle.server_rules.specs.Asking.{call_of, may_ask, is_allowed, answer_to, session_number}
use Rattle.server_rules.specs.Asking.{ask_outcome, answer_outcome, when_told, asked_allowed}
use Rattle.server_rules.specs.Asking.{asked_running, asked_of}
use Rattle.server_rules.specs.Cells.{must_wait}
use Rattle.server_rules.specs.Ending.{with_cells_ended, with_left_attempt, end_compared, end_checked, end_running}
use Rattle.server_rules.specs.Ending.{end_of}
use Rattle.server_rules.specs.Deeds.{start_of, for_actor, unless_worn, drain_outcome, plan}
use Rattle.server_rules.specs.Machine.World.{TenantData, World, Step, opens, does, closes, Stepped, refused}
use Rattle.server_rules.specs.Machine.World.{is_used, open_count, opened_tenant, open_step, with_tenant}
use Rattle.server_rules.specs.Machine.World.{ended_as, planned_step, deed_step, close_step, step, world_or}
use Rattle.server_rules.specs.declared.actor.Actor.{Actor}
use Rattle.server_rules.specs.declared.refusal.Refusal.{Refusal}
use Rattle.server_rules.proofs.Steps.{room}
use Rattle.tenant_parts.proofs.Calls.{performed-tenant}
use Rattle.repl_core.specs.Standing.{open_in, store_in}
use Rattle.repl_core.specs.Commits.{kept_refs, refs_in, newest_in, goes_with, given_by, newest_after}
use Rattle.repl_core.specs.Commits.{newest_behind}
use Rattle.repl_core.proofs.Worlds.{used-none}
use Rattle.repl_core.proofs.Places.{open-others, open-mine}
use Rattle.repl_core.proofs.CommitCalls.{newest_of, newest_at, left-newest, asked-newest}
use Rattle.repl_core.proofs.CommitCalls.{given-none}

-- The plans of an ask

worn-by : (P : Plan → Type 0) (q : TenantState) (p : Plan) → P (quietly (refuses Refusal.Worn)) → P p
    → P (unless_worn q p)
worn-by P q p none all =
    elim (q.steps == 0) as (λ b. P (if b then quietly (refuses Refusal.Worn) else p)) [
      | true ↦ none
      | false ↦ all
    ]

actor-by : (P : Plan → Type 0) (a : Option ActorData) (p : ActorData → Plan)
    → P (quietly (refuses Refusal.NoSuchActor)) → ((actor : ActorData) → P (p actor))
    → P (for_actor a p)
actor-by P None p none all = none
actor-by P (Some actor) p none all = all actor

-- the actor's session was closed, or the form is answered
abbrev pub closed_plan : Actor → WorkInHand → AskData → TenantState → Plan
closed_plan a h ask q = record {
  call = gives_up (seat_of a) (call_of (seat_of a) ask);
  next = λ told. when_told told (λ _. interrupted_in a h q);
}

abbrev pub open_plan : Ground → Actor → ActorData → WorkInHand → Run → AskData → TenantState → Plan
open_plan g a actor h form ask q = record {
  call = call_of (seat_of a) ask;
  next = λ told. when_told told (answer_outcome g a actor h form ask q);
}

module _ (P : Plan → Type 0) (g : Ground) (a : Actor) (ask : AskData) (q : TenantState)
    (none : (why : Refusal) → P (quietly (refuses why)))
    (closed : (h : WorkInHand) → P (closed_plan a h ask q))
    (open_for : (actor : ActorData) (h : WorkInHand) (form : Run)
    → P (open_plan g a actor h form ask q)) where
  allowed-by : (actor : ActorData) (h : WorkInHand) (form : Run)
      → P (asked_allowed g a actor h form ask q)
  allowed-by actor h form =
      elim actor.is_closed
      as (λ b. P (if b then closed_plan a h ask q else open_plan g a actor h form ask q)) [
        | true ↦ closed h
        | false ↦ open_for actor h form
      ]

  running-by : (actor : ActorData) (h : WorkInHand) (form : Option Run)
      → P (asked_running g a actor h ask q form)
  running-by actor h None = none Refusal.Idle
  running-by actor h (Some form) =
      elim (may_ask a ask && is_allowed ask q.cells)
      as (λ b. P (if b then asked_allowed g a actor h form ask q
      else quietly (refuses Refusal.Idle))) [
        | true ↦ allowed-by actor h form
        | false ↦ none Refusal.Idle
      ]

  hand-by : (actor : ActorData) (h : Option WorkInHand) → P (asked_of g a actor ask q h)
  hand-by actor None = none Refusal.Idle
  hand-by actor (Some h) = running-by actor h h.running

  pub asked-by : (t : ℕ) → P (plan g t q (asks_for a ask))
  asked-by t = worn-by P q _ (none Refusal.Worn)
      (actor-by P (part_under (seat_of a) q.actors) (λ actor. asked_of g a actor ask q actor.hand)
      (none Refusal.NoSuchActor) (λ actor. hand-by actor actor.hand))

-- What a step gives a ref

abbrev pub Gives : RefNameData → World → Step → Stepped → Type 0
Gives name w s x = newest_in name (world_or w x) ≡ newest_behind name s x (newest_in name w)

-- a tenant that is put in place of itself
put-newest : (name : RefNameData) (w : World) (t : ℕ) (kept : TenantData) (q : TenantState) (s : Store)
    (given : Option Datum → Option Datum) → open_in t w ≡ Some kept → s.tenant ≡ t
    → newest_at name s ≡ given (newest_at name (store_in w.around t kept.mine))
    → ((before : Option Datum) → given None ≡ None → given before ≡ before)
    → newest_in name (with_tenant t (Some (record { state = q; mine = s.mine })) s.around w)
    ≡ given (newest_in name w)
put-newest name w t kept q s given there same here idle = by name.owner here
  where
    part : Option TenantData
    part = Some (record { state = q; mine = s.mine })

    shown : Option TenantData → Option Datum
    shown p = newest_of (slice_get (kept_refs p) name.number)

    at : (u : ℕ) (b : Bool) → (u == t) ≡ b
        → newest_of (if b then slice_get s.mine.refs name.number else None)
        ≡ given (newest_of (if b then slice_get kept.mine.refs name.number else None))
        → shown (open_in u (with_tenant t part s.around w)) ≡ given (shown (open_in u w))
    at u true is e =
        ap shown (ap (λ k. open_in k (with_tenant t part s.around w)) (eqb-true u t is)
        ∙ open-mine w s.around t part kept there)
        ∙ e
        ∙ ap (λ p. given (shown p)) (sym (ap (λ k. open_in k w) (eqb-true u t is) ∙ there))
    at u false apart e =
        ap shown (open-others w s.around t u part kept there (eqb-false u t apart))
        ∙ sym (idle (shown (open_in u w)) (sym e))

    by : (o : OwnerData) → newest_of (ref_of o name.number s)
        ≡ given (newest_of (ref_of o name.number (store_in w.around t kept.mine)))
        → newest_of (slice_get (refs_in o (with_tenant t part s.around w)) name.number)
        ≡ given (newest_of (slice_get (refs_in o w) name.number))
    by shared e = e
    by (tenant u) e = at u (u == t) refl (subst
        (λ k. newest_of (if u == k then slice_get s.mine.refs name.number else None)
        ≡ given (newest_of (if u == t then slice_get kept.mine.refs name.number else None)))
        same e)

after-none : (name : RefNameData) (t : ℕ) (d : Deed) (answer : StepAnswer) (before : Option Datum)
    → newest_after name (does t d) answer None ≡ None
    → newest_after name (does t d) answer before ≡ before
after-none name t (asks_for a ask) (ask_answered answer) before e =
    given-none name ask answer before e
after-none name t _ _ before e = refl

ended-gives : (name : RefNameData) (w : World) (t : ℕ) (d : Deed) (kept : TenantData) (s : Store)
    (o : Outcome) → open_in t w ≡ Some kept → s.tenant ≡ t
    → ((q : TenantState) (answer : StepAnswer) → o ≡ leaves q answer → newest_at name s
    ≡ newest_after name (does t d) answer (newest_at name (store_in w.around t kept.mine)))
    → Gives name w (does t d) (ended_as w t s o)
ended-gives name w t d kept s (refuses why) there same here = refl
ended-gives name w t d kept s (leaves q answer) there same here =
    put-newest name w t kept q s (newest_after name (does t d) answer) there same
    (here q answer refl) (after-none name t d answer)

module _ (name : RefNameData) (w : World) (t : ℕ) (kept : TenantData)
    (there : open_in t w ≡ Some kept) where
  abbrev Planned : Deed → Plan → Type 0
  Planned d p = Gives name w (does t d) (planned_step w t kept p)

  -- the deed gives no ref a value
  abbrev Still : Deed → Type 0
  Still d = (answer : StepAnswer) (before : Option Datum)
      → newest_after name (does t d) answer before ≡ before

  quiet-gives : (d : Deed) → Still d → (o : Outcome) → Planned d (quietly o)
  quiet-gives d still o = ended-gives name w t d kept (store_in w.around t kept.mine) o there refl
      (λ q answer is. sym (still answer (newest_at name (store_in w.around t kept.mine))))

  left-gives : (d : Deed) → Still d → (a : Actor) (o : Outcome)
      → Planned d (with_left_attempt a o)
  left-gives d still a o = ended-gives name w t d kept
      (left_attempt (seat_of a) (store_in w.around t kept.mine)) o there refl
      (λ q answer is. left-newest name (seat_of a) (store_in w.around t kept.mine)
      ∙ sym (still answer (newest_at name (store_in w.around t kept.mine))))

  compared-gives : (d : Deed) → Still d → (a : Actor) (actor : ActorData) (h : WorkInHand) (form : Run)
      (e : EndingData) (same : Bool) (difference : Option ℕ)
      → Planned d (end_compared a actor h form e kept.state same difference)
  compared-gives d still a actor h form e false difference = refl
  compared-gives d still a actor h form e true (Some place) = refl
  compared-gives d still a actor h form e true None = left-gives d still a
      (leaves (with_step_spent (after_move a actor (form_ended h e.end (actor_state a kept.state))
      (with_cells_ended a h form e kept.state))) form_finished)

  checked-gives : (g : Ground) (d : Deed) → Still d → (a : Actor) (actor : ActorData) (h : WorkInHand)
      (form : Run) (e : EndingData) → Planned d (end_checked g a actor h form e kept.state)
  checked-gives g d still a actor h form e = compared-gives d still a actor h form e
      (g.comparisons.is_same_job e.job form.job) (g.comparisons.difference e.trace form.trace)

  ending-gives : (g : Ground) (d : Deed) → Still d → (a : Actor) (actor : ActorData) (h : WorkInHand)
      (e : EndingData) (form : Option Run) → Planned d (end_running g a actor h e kept.state form)
  ending-gives g d still a actor h e None = refl
  ending-gives g d still a actor h e (Some form) =
      elim actor.is_closed
      as (λ b. Planned d (if b then with_left_attempt a (interrupted_in a h kept.state)
      else if is_held kept.state then quietly (refuses Refusal.Held)
      else end_checked g a actor h form e kept.state)) [
        | true ↦ left-gives d still a (interrupted_in a h kept.state)
        | false ↦ elim (is_held kept.state)
            as (λ b. Planned d (if b then quietly (refuses Refusal.Held)
            else end_checked g a actor h form e kept.state)) [
              | true ↦ refl
              | false ↦ checked-gives g d still a actor h form e
            ]
      ]

  end-gives : (g : Ground) (d : Deed) → Still d → (a : Actor) (actor : ActorData) (e : EndingData)
      (h : Option WorkInHand) → Planned d (end_of g a actor e kept.state h)
  end-gives g d still a actor e None = refl
  end-gives g d still a actor e (Some h) = ending-gives g d still a actor h e h.running

  closed-gives : (a : Actor) (ask : AskData) (h : WorkInHand)
      → Planned (asks_for a ask) (closed_plan a h ask kept.state)
  closed-gives a ask h =
      by (performed (store_in w.around t kept.mine) (call_of (seat_of a) ask)).told
    where
      by : (o : Option AnswerData) → Gives name w (does t (asks_for a ask))
          (ended_as w t (given_up (seat_of a) (store_in w.around t kept.mine) o).store
          (when_told (given_up (seat_of a) (store_in w.around t kept.mine) o).told
          (λ _. interrupted_in a h kept.state)))
      by None = refl
      by (Some v) = put-newest name w t kept _
          (left_attempt (seat_of a) (store_in w.around t kept.mine)) (λ before. before) there refl
          (left-newest name (seat_of a) (store_in w.around t kept.mine)) (λ before e. refl)

  answer-given : (g : Ground) (a : Actor) (ask : AskData) (told : AnswerData)
      (before : Option Datum)
      → given_by name ask (answer_to g a kept.state ask told) before
      ≡ given_by name ask told before
  answer-given g a (exchange.resolve namespace symbol) told before = refl
  answer-given g a _ told before = refl

  open-gives : (g : Ground) (a : Actor) (ask : AskData) (actor : ActorData) (h : WorkInHand) (form : Run)
      → Planned (asks_for a ask) (open_plan g a actor h form ask kept.state)
  open-gives g a ask actor h form =
      by (performed (store_in w.around t kept.mine) (call_of (seat_of a) ask)).told refl
    where
      s : Store
      s = store_in w.around t kept.mine

      by : (o : Option AnswerData) → (performed s (call_of (seat_of a) ask)).told ≡ o
          → Gives name w (does t (asks_for a ask))
          (ended_as w t (performed s (call_of (seat_of a) ask)).store
          (when_told o (answer_outcome g a actor h form ask kept.state)))
      by None told = refl
      by (Some v) told = waits (must_wait (session_number a) ask kept.state.cells) where
        waits : (b : Bool) → Gives name w (does t (asks_for a ask))
            (ended_as w t (performed s (call_of (seat_of a) ask)).store
            (if b then refuses Refusal.Waiting else ask_outcome g a actor h form ask kept.state v))
        waits true = refl
        waits false = put-newest name w t kept _ (performed s (call_of (seat_of a) ask)).store
            (given_by name ask (answer_to g a kept.state ask v)) there
            (performed-tenant s (call_of (seat_of a) ask))
            (asked-newest name (seat_of a) ask v s told
            ∙ sym (answer-given g a ask v (newest_at name s)))
            (given-none name ask (answer_to g a kept.state ask v))

  plan-gives : (g : Ground) (d : Deed) → Planned d (plan g t kept.state d)
  plan-gives g (hears piece) =
      quiet-gives (hears piece) (λ answer before. refl) ((hearing_plan g t piece kept.state).next None)
  plan-gives g (starts a) = worn-by (Planned (starts a)) kept.state _ refl
      (actor-by (Planned (starts a)) (part_under (seat_of a) kept.state.actors) _ refl
      (λ actor. quiet-gives (starts a) (λ answer before. refl)
      (start_of g a actor kept.state actor.hand)))
  plan-gives g (asks_for a ask) = asked-by (Planned (asks_for a ask)) g a ask kept.state
      (λ why. refl) (closed-gives a ask) (open-gives g a ask) t
  plan-gives g (ends a e) = worn-by (Planned (ends a e)) kept.state _ refl
      (actor-by (Planned (ends a e)) (part_under (seat_of a) kept.state.actors) _ refl
      (λ actor. end-gives g (ends a e) (λ answer before. refl) a actor e actor.hand))
  plan-gives g drains = quiet-gives drains (λ answer before. refl)
      (drain_outcome kept.state kept.state.replies)

deed-gives : (name : RefNameData) (g : Ground) (w : World) (t : ℕ) (d : Deed)
    (o : Option (Option TenantData)) → part_under t w.tenants ≡ o
    → Gives name w (does t d) (deed_step g w t d o)
deed-gives name g w t d None is = refl
deed-gives name g w t d (Some None) is = refl
deed-gives name g w t d (Some (Some kept)) is =
    plan-gives name w t kept (ap (option_and_then (λ part. part)) is) g d

come-gives : (name : RefNameData) (g : Ground) (w : World) (t : ℕ)
    → Gives name w (opens t) (open_step g w t)
come-gives name g w t = by (is_used t w.tenants) refl
  where
    shown : Option (Option TenantData) → Option Datum
    shown o = newest_of (slice_get (kept_refs (option_and_then (λ part. part) o)) name.number)

    at : is_used t w.tenants ≡ false → (u : ℕ) (b : Bool) → (u == t) ≡ b
        → shown (if b then Some (Some (opened_tenant g)) else part_under u w.tenants)
        ≡ shown (part_under u w.tenants)
    at unused u true same = sym (ap shown
        (ap (λ k. part_under k w.tenants) (eqb-true u t same) ∙ used-none t w.tenants unused))
    at unused u false apart = refl

    added : is_used t w.tenants ≡ false → (o : OwnerData)
        → newest_of (slice_get (refs_in o
        (record w { tenants = entry t (Some (opened_tenant g)) ∷ w.tenants })) name.number)
        ≡ newest_of (slice_get (refs_in o w) name.number)
    added unused shared = refl
    added unused (tenant u) = at unused u (u == t) refl

    full : is_used t w.tenants ≡ false → (b : Bool) → Gives name w (opens t) (room g w t b)
    full unused true = refl
    full unused false = added unused name.owner

    by : (b : Bool) → is_used t w.tenants ≡ b
        → Gives name w (opens t) (if b then refused Refusal.NumberUsed
        else room g w t (nat_le g.places (open_count w.tenants)))
    by true used = refl
    by false unused = full unused (nat_le g.places (open_count w.tenants))

close-gives : (name : RefNameData) (w : World) (t : ℕ) (o : Option (Option TenantData))
    → part_under t w.tenants ≡ o → Gives name w (closes t) (close_step w t o)
close-gives name w t None is = refl
close-gives name w t (Some None) is = refl
close-gives name w t (Some (Some kept)) is = by name.owner
  where
    there : open_in t w ≡ Some kept
    there = ap (option_and_then (λ part. part)) is

    shown : Option TenantData → Option Datum
    shown p = newest_of (slice_get (kept_refs p) name.number)

    at : (u : ℕ) (b : Bool) → (u == t) ≡ b
        → shown (open_in u (with_tenant t None w.around w))
        ≡ (if b then None else shown (open_in u w))
    at u true same = ap shown
        (ap (λ k. open_in k (with_tenant t None w.around w)) (eqb-true u t same)
        ∙ open-mine w w.around t None kept there)
    at u false apart =
        ap shown (open-others w w.around t u None kept there (eqb-false u t apart))

    by : (o : OwnerData)
        → newest_of (slice_get (refs_in o (with_tenant t None w.around w)) name.number)
        ≡ (if goes_with t o then None else newest_of (slice_get (refs_in o w) name.number))
    by shared = refl
    by (tenant u) = at u (u == t) refl

pub step-gives : (name : RefNameData) (g : Ground) (w : World) (s : Step)
    → Gives name w s (step g w s)
unfolding step
step-gives name g w (opens t) = come-gives name g w t
step-gives name g w (does t d) = deed-gives name g w t d (part_under t w.tenants) refl
step-gives name g w (closes t) = close-gives name w t (part_under t w.tenants) refl
