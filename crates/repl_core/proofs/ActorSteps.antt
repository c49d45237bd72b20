-- What a step makes of an actor's form and of its read point.
use Rattle.std.proofs.Common.{◌≡◌, ◌≢◌, ◌∙◌, ◌⊎◌, inl, inr, ℕ, ◌==◌, List, [], ◌∷◌, Bool, true}
use Rattle.std.proofs.Common.{false, Option, Some, None, is_some, option_and_then, refl, sym, ap}
use Rattle.std.proofs.Common.{subst, arith, if◌then◌else◌, ◌&&◌}
use Rattle.std.specs.Prelude.{⊤, Result, Ok, Err}
use Rattle.std.proofs.lemmas.Bool.{cases_eq}
use Rattle.repl_values.specs.Failure.{Failure}
use Rattle.bencode_wire.specs.declared.fault.WireFault.{WireFault}
use Rattle.repl_asks.specs.Exchange.{AskData, AnswerData}
use Rattle.repl_asks.specs.Job.{EndData, EndingData}
use Rattle.repl_replies.specs.Replies.{OriginData, ReplyData}
use Rattle.repl_sessions.specs.State.{StateData, in_namespace}
use Rattle.value_data.specs.Datum.{Datum, nil, Items, no_items, item}
use Rattle.repl_replies.specs.Fields.{text_of}
use Rattle.ref_table.specs.Numbered.{Entry, part_under, with_part, without}
use Rattle.ref_table.specs.Store.{Store, left_attempt}
use Rattle.ref_table.specs.Calls.{performed, given_up}
use Rattle.server_rules.specs.Ground.{Ground}
use Rattle.server_rules.specs.Request.{Waiting, Manner, each_form, each_form_elsewhere, last_form}
use Rattle.server_rules.specs.Request.{of_action, ProgramText, code, file, WorkInHand, Run}
use Rattle.server_rules.specs.Tenant.{ActorData, seat_of, TenantState, is_held, with_actor, with_state}
use Rattle.server_rules.specs.Tenant.{actor_state}
use Rattle.server_rules.specs.Moves.{Move, closing_move, going_on, result_noted, form_loaded}
use Rattle.server_rules.specs.Moves.{form_ended_as, form_ended}
use Rattle.server_rules.specs.Plan.{Deed, hears, starts, asks_for, ends, drains, Outcome, refuses}
use Rattle.server_rules.specs.Plan.{leaves, Plan, quietly, with_step_spent, form_begun}
use Rattle.server_rules.specs.Hearing.{stream_fault, hears_more}
use Rattle.server_rules.specs.Starting.{Started, next_begun, hand_of, program_begun}
use Rattle.server_rules.specs.Starting.{namespace_there, elsewhere_begun, text_begun, first_state}
use Rattle.server_rules.specs.Starting.{after_move, start_outcome, interrupted_in, held_or}
use Rattle.server_rules.specs.Starting.{start_in_hand, start_waiting, start_action, action_for}
use Rattle.server_rules.specs.Starting.{action_begun, with_action_begun}
use Rattle.server_rules.specs.Asking.{call_of, may_ask, is_allowed, answer_to, session_number}
use Rattle.server_rules.specs.Asking.{ask_outcome, answer_outcome, when_told, asked_allowed}
use Rattle.server_rules.specs.Asking.{asked_running, asked_of}
use Rattle.server_rules.specs.Cells.{CellsData, NextAction, must_wait}
use Rattle.server_rules.specs.Ending.{with_cells_ended, with_left_attempt, end_accepted, end_compared, end_running}
use Rattle.server_rules.specs.Ending.{end_of}
use Rattle.server_rules.specs.Deeds.{start_of, for_actor, unless_worn, drain_outcome, plan}
use Rattle.server_rules.specs.declared.actor.Actor.{Actor}
use Rattle.server_rules.specs.declared.refusal.Refusal.{Refusal}
use Rattle.server_rules.proofs.Numbered.{none-some, some-same}
use Rattle.tenant_parts.proofs.Points.{part_under-without}
use Rattle.repl_core.proofs.Runs.{runs_at, part_under-put, heard-runs}
use Rattle.tenant_asks.specs.Asking.{exchange_from, run_with}
use Rattle.tenant_world.specs.Running.{running_of, running_in}
use Rattle.repl_core.proofs.CommitSteps.{closed_plan, open_plan}
use Rattle.repl_core.proofs.AskedPoints.{gone, asked-others}

-- What comes of a deed of a tenant

-- no form, or one that has asked nothing
abbrev pub IsFresh : Option Run → Type 0
IsFresh None = ⊤
IsFresh (Some form) = form.trace ≡ []

-- The actor's form asked, and has this form and this read point then.
pub record AskedBy (g : Ground) (a : Actor) (q : TenantState) (s : Store) (d : Deed) (f : Option Run)
    (p : Option ℕ) : Type 0 where
  pub form : Run
  pub runs : running_in a q ≡ Some form
  pub ask : AskData
  pub told : AnswerData
  pub is : d ≡ asks_for a ask
  pub tells : (performed s (call_of (seat_of a) ask)).told ≡ Some told
  pub form_after : f ≡ Some (run_with (exchange_from ask (answer_to g a q ask told)) form)
  pub point_after
      : p ≡ part_under (seat_of a) (performed s (call_of (seat_of a) ask)).store.mine.points

-- the form and the point are as they were, or a form begins, or the form is over, or it asked
abbrev pub Moves : Ground → Actor → TenantState → Store → Deed → Option Run → Option ℕ → Type 0
Moves g a q s d f p =
    ((f ≡ running_in a q) × (p ≡ part_under (seat_of a) s.mine.points))
    ⊎ (((running_in a q ≡ None) × IsFresh f × (p ≡ part_under (seat_of a) s.mine.points))
    ⊎ (((f ≡ None) × (p ≡ None)) ⊎ AskedBy g a q s d f p))

-- so an outcome leaves the actor
abbrev pub Leaves : (Option Run → Option ℕ → Type 0) → Actor → Store → Outcome → Type 0
Leaves P a new (refuses why) = ⊤
Leaves P a new (leaves q answer) = P (running_in a q) (part_under (seat_of a) new.mine.points)

abbrev Comes : Ground → Actor → TenantState → Store → Deed → Plan → Type 0
Comes g a q s d p =
    Leaves (Moves g a q s d) a (performed s p.call).store (p.next (performed s p.call).told)

-- Finite maps

pub put-mine : (n : ℕ) (new old : ActorData) (es : List (Entry ActorData)) → part_under n es ≡ Some old
    → runs_at n (with_part n new es) ≡ option_and_then (λ h. h.running) new.hand
put-mine n new old es there = ap running_of ((part_under-put n n new old es there).0 refl)

pub put-other : (m n : ℕ) (new old : ActorData) (es : List (Entry ActorData)) → m ≢ n
    → part_under n es ≡ Some old → runs_at m (with_part n new es) ≡ runs_at m es
put-other m n new old es apart there = ap running_of ((part_under-put m n new old es there).1 apart)

pub gone-mine : (n : ℕ) (es : List (Entry ActorData)) → runs_at n (without n es) ≡ None
gone-mine n es = ap running_of (gone n es)

pub gone-other : (m n : ℕ) (es : List (Entry ActorData)) → m ≢ n
    → runs_at m (without n es) ≡ runs_at m es
gone-other m n es apart = ap running_of (part_under-without m n es apart)

with_state-actors : (a : Actor) (state : StateData) (q : TenantState)
    → (with_state a state q).actors ≡ q.actors
with_state-actors Actor.Agents state q = refl
with_state-actors Actor.Bare state q = refl
with_state-actors (Actor.Session n) state q = refl

-- what an actor runs behind a move of another or of itself
pub moved-runs : (a b : Actor) (actor : ActorData) (m : Move) (q : TenantState)
    → running_in a (with_step_spent (after_move b actor m q))
    ≡ runs_at (seat_of a) (with_part (seat_of b) (record actor { hand = m.hand }) q.actors)
moved-runs a b actor m q = ap (λ es. runs_at (seat_of a) es)
    (with_state-actors b m.state (with_actor b (record actor { hand = m.hand }) q))

-- Moves

-- a form that begins has asked nothing, and the answer has its job
abbrev pub HasBegun : Started → Type 0
HasBegun st = (form : Run) → option_and_then (λ h. h.running) st.move.hand ≡ Some form
    → (st.answer ≡ form_begun form.job) × (form.trace ≡ [])

closing-none : (origin : OriginData) (manner : Manner) (fault : Option Failure) (state : StateData)
    → option_and_then (λ h. h.running) (closing_move origin manner fault state).hand ≡ None
closing-none origin manner (Some f) state = refl
closing-none origin (last_form d) None state = refl
closing-none origin (of_action session) None state = refl
closing-none origin each_form None state = refl
closing-none origin each_form_elsewhere None state = refl

not-begun : (st : Started) → option_and_then (λ h. h.running) st.move.hand ≡ None → HasBegun st
not-begun st none = λ form is. absurd (none-some (sym none ∙ is))

so-begun : (st : Started) (form : Run) → option_and_then (λ h. h.running) st.move.hand ≡ Some form
    → st.answer ≡ form_begun form.job → form.trace ≡ [] → HasBegun st
so-begun st form there answer fresh = λ other is.
    subst (λ f. (st.answer ≡ form_begun f.job) × (f.trace ≡ []))
    (some-same form other (sym there ∙ is)) (answer, fresh)

fresh-by : (f : Option Run) → ((form : Run) → f ≡ Some form → form.trace ≡ []) → IsFresh f
fresh-by None all = tt
fresh-by (Some form) all = all form refl

begun-fresh : (st : Started) → HasBegun st → IsFresh (option_and_then (λ h. h.running) st.move.hand)
begun-fresh st begun = fresh-by _ (λ form is. (begun form is).1)

next-begun-so : (g : Ground) (h : WorkInHand) (state : StateData) (forms : Items)
    → HasBegun (next_begun g h state forms)
next-begun-so g h state no_items = not-begun (next_begun g h state no_items)
    (closing-none h.origin h.manner h.fault state)
next-begun-so g h state (item d ds) = so-begun (next_begun g h state (item d ds)) _ refl refl refl

program-begun-so : (g : Ground) (origin : OriginData) (manner : Manner) (namespace : List ℕ)
    (state : StateData) (text : List ℕ)
    → HasBegun (program_begun g origin manner namespace state (g.readings.program text))
program-begun-so g origin manner namespace state text =
    next-begun-so g (hand_of origin manner namespace (g.readings.program text)) state
    (g.readings.program text).forms

text-begun-so : (g : Ground) (q : TenantState) (origin : OriginData) (state : StateData)
    (text : ProgramText) → HasBegun (text_begun g q.spaces origin state text)
text-begun-so g q origin state (file text) =
    program-begun-so g origin (last_form nil) state.namespace state text
text-begun-so g q origin state (code text None) =
    program-begun-so g origin each_form state.namespace state text
text-begun-so g q origin state (code text (Some ns)) =
    by (option_and_then (namespace_there q.spaces) (text_of (Some ns)))
  where
    by : (name : Option (List ℕ)) → HasBegun (elsewhere_begun g origin text state name)
    by None = not-begun (elsewhere_begun g origin text state None) refl
    by (Some name) = program-begun-so g origin each_form_elsewhere name state text

going-none : (h : WorkInHand) (forms : Items) (state : StateData)
    → option_and_then (λ x. x.running) (going_on h forms state).hand ≡ None
going-none h no_items state = closing-none h.origin h.manner h.fault state
going-none h (item d ds) state = refl

pub ended-none : (h : WorkInHand) (e : EndData) (state : StateData)
    → option_and_then (λ x. x.running) (form_ended h e state).hand ≡ None
unfolding form_ended
ended-none h e state = by h.manner
  where
    loaded : (r : Result Datum Failure)
        → option_and_then (λ x. x.running) (form_loaded h e r state).hand ≡ None
    loaded (Ok d) =
        going-none (record h { manner = last_form d; namespace = e.namespace }) h.forms state
    loaded (Err f) = refl

    by : (m : Manner) → option_and_then (λ x. x.running) (form_ended_as h e state m).hand ≡ None
    by each_form = going-none (record h { namespace = e.namespace }) h.forms
        (in_namespace e.namespace (result_noted e.result state))
    by each_form_elsewhere = going-none (record h { namespace = e.namespace }) h.forms
        (result_noted e.result state)
    by (last_form d) = loaded e.result
    by (of_action session) = refl

-- Plans by cases

pub either : {A : Type 0} (P : A → Type 0) (b : Bool) (x y : A) → P x → P y → P (if b then x else y)
either P true x y h k = h
either P false x y h k = k

found-by : (P : Plan → Type 0) (o : Option ActorData) (p : ActorData → Plan)
    → P (quietly (refuses Refusal.NoSuchActor))
    → ((actor : ActorData) → o ≡ Some actor → P (p actor)) → P (for_actor o p)
found-by P None p none all = none
found-by P (Some actor) p none all = all actor refl

abbrev pub Refused : (Plan → Type 0) → Type 0
Refused P = (why : Refusal) → P (quietly (refuses why))

abbrev pub There : Actor → TenantState → ActorData → Type 0
There b q actor = part_under (seat_of b) q.actors ≡ Some actor

module _ (P : Plan → Type 0) (g : Ground) (b : Actor) (q : TenantState) (none : Refused P) where
  held-by : (o : Outcome) → P (quietly o) → P (quietly (held_or q o))
  held-by o h = either (λ x. P (quietly x)) (is_held q) (refuses Refusal.Held) o
      (none Refusal.Held) h

  actor-by : (p : ActorData → Plan) → ((actor : ActorData) → There b q actor → P (p actor))
      → P (unless_worn q (for_actor (part_under (seat_of b) q.actors) p))
  actor-by p all = either P (q.steps == 0) _ _ (none Refusal.Worn)
      (found-by P (part_under (seat_of b) q.actors) p (none Refusal.NoSuchActor) all)

  module _ (begun : (actor old : ActorData) → There b q old
      → option_and_then (λ h. h.running) old.hand ≡ None → (st : Started) → HasBegun st
      → (c : CellsData) → P (quietly (start_outcome b actor st (record q { cells = c }))))
      (interrupted : (actor : ActorData) → There b q actor
      → option_and_then (λ h. h.running) actor.hand ≡ None → (h : WorkInHand)
      → P (quietly (interrupted_in b h q))) where
    action-by : (actor : ActorData) → There b q actor → actor.hand ≡ None
        → (next : Option NextAction) → P (quietly (start_action g b actor q next))
    action-by actor there idle None = none Refusal.Idle
    action-by actor there idle (Some next) =
        let later : TenantState = with_action_begun q in
        held-by (start_outcome b actor (action_begun g next) later) (begun actor actor there
        (ap (option_and_then (λ h. h.running)) idle) (action_begun g next)
        (so-begun (action_begun g next) _ refl refl refl) later.cells)

    waiting-by : (actor : ActorData) → There b q actor → actor.hand ≡ None → (ws : List Waiting)
        → P (quietly (start_waiting g b actor q ws))
    waiting-by actor there idle [] = action-by actor there idle (action_for b q.cells.agents)
    waiting-by actor there idle (x ∷ ws) =
        let left : ActorData = record actor { waiting = ws } in
        let st : Started = text_begun g q.spaces x.origin (first_state b q) x.text in
        held-by (start_outcome b left st q) (begun left actor there
        (ap (option_and_then (λ h. h.running)) idle) st
        (text-begun-so g q x.origin (first_state b q) x.text) q.cells)

    in_hand-by : (actor : ActorData) → There b q actor → (h : WorkInHand) → actor.hand ≡ Some h
        → (runs : Bool) → is_some h.running ≡ runs → P (quietly (start_in_hand g b actor h q runs))
    in_hand-by actor there h in_hand true runs = none Refusal.Idle
    in_hand-by actor there h in_hand false idle =
        let not_running : option_and_then (λ x. x.running) actor.hand ≡ None =
        ap (option_and_then (λ x. x.running)) in_hand ∙ none-there h.running idle in
        let st : Started = next_begun g h (actor_state b q) h.forms in
        let outcome : Outcome = start_outcome b actor st q in
        either (λ o. P (quietly o)) actor.is_closed (interrupted_in b h q) (held_or q outcome)
        (interrupted actor there not_running h)
        (held-by outcome (begun actor actor there not_running st
        (next-begun-so g h (actor_state b q) h.forms) q.cells))
      where
        none-there : (o : Option Run) → is_some o ≡ false → o ≡ None
        none-there None e = refl
        none-there (Some form) e = absurd (cc)

    start-by : (actor : ActorData) → There b q actor → (h : Option WorkInHand) → actor.hand ≡ h
        → P (quietly (start_of g b actor q h))
    start-by actor there None is = waiting-by actor there is actor.waiting
    start-by actor there (Some h) is = in_hand-by actor there h is (is_some h.running) refl

    pub starts-by : (t : ℕ) → P (plan g t q (starts b))
    starts-by t = actor-by (λ actor. quietly (start_of g b actor q actor.hand))
        (λ actor there. start-by actor there actor.hand refl)

  module _ (ask : AskData) (closed : (actor : ActorData) → There b q actor → (h : WorkInHand)
      → P (closed_plan b h ask q))
      (open_for : (actor : ActorData) → There b q actor → (h : WorkInHand) → actor.hand ≡ Some h
      → (form : Run) → h.running ≡ Some form → P (open_plan g b actor h form ask q)) where
    allowed-by : (actor : ActorData) → There b q actor → (h : WorkInHand) → actor.hand ≡ Some h
        → (form : Run) → h.running ≡ Some form → P (asked_allowed g b actor h form ask q)
    allowed-by actor there h in_hand form runs = either P actor.is_closed (closed_plan b h ask q)
        (open_plan g b actor h form ask q) (closed actor there h)
        (open_for actor there h in_hand form runs)

    running-by : (actor : ActorData) → There b q actor → (h : WorkInHand) → actor.hand ≡ Some h
        → (form : Option Run) → h.running ≡ form → P (asked_running g b actor h ask q form)
    running-by actor there h in_hand None runs = none Refusal.Idle
    running-by actor there h in_hand (Some form) runs =
        either P (may_ask b ask && is_allowed ask q.cells) _ _
        (allowed-by actor there h in_hand form runs) (none Refusal.Idle)

    hand-by : (actor : ActorData) → There b q actor → (h : Option WorkInHand) → actor.hand ≡ h
        → P (asked_of g b actor ask q h)
    hand-by actor there None is = none Refusal.Idle
    hand-by actor there (Some h) is = running-by actor there h is h.running refl

    pub asks-by : (t : ℕ) → P (plan g t q (asks_for b ask))
    asks-by t = actor-by (λ actor. asked_of g b actor ask q actor.hand)
        (λ actor there. hand-by actor there actor.hand refl)

  module _ (e : EndingData) (over : (actor : ActorData) → There b q actor → (h : WorkInHand)
      → P (with_left_attempt b (interrupted_in b h q)))
      (ended : (actor : ActorData) → There b q actor → (h : WorkInHand) (form : Run)
      → P (end_accepted b actor h form e q)) where
    compared-by : (actor : ActorData) → There b q actor → (h : WorkInHand) (form : Run) (same : Bool)
        (difference : Option ℕ) → P (end_compared b actor h form e q same difference)
    compared-by actor there h form false difference = none (Refusal.TraceMismatch 0)
    compared-by actor there h form true (Some place) = none (Refusal.TraceMismatch place)
    compared-by actor there h form true None = ended actor there h form

    ending-by : (actor : ActorData) → There b q actor → (h : WorkInHand) (form : Option Run)
        → P (end_running g b actor h e q form)
    ending-by actor there h None = none Refusal.Idle
    ending-by actor there h (Some form) = either P actor.is_closed _ _ (over actor there h)
        (either P (is_held q) _ _ (none Refusal.Held)
        (compared-by actor there h form (g.comparisons.is_same_job e.job form.job)
        (g.comparisons.difference e.trace form.trace)))

    end-by : (actor : ActorData) → There b q actor → (h : Option WorkInHand)
        → P (end_of g b actor e q h)
    end-by actor there None = none Refusal.Idle
    end-by actor there (Some h) = ending-by actor there h h.running

    pub ends-by : (t : ℕ) → P (plan g t q (ends b e))
    ends-by t = actor-by (λ actor. end_of g b actor e q actor.hand)
        (λ actor there. end-by actor there actor.hand)

-- Deeds of the actor

module _ (g : Ground) (a : Actor) (q : TenantState) (s : Store) where
  stays : (d : Deed) (f : Option Run) (p : Option ℕ) → f ≡ running_in a q
      → p ≡ part_under (seat_of a) s.mine.points → Moves g a q s d f p
  stays d f p same here = inl (same, here)

  is_over : (d : Deed) (f : Option Run) (p : Option ℕ) → f ≡ None → p ≡ None → Moves g a q s d f p
  is_over d f p none left = inr (inr (inl (none, left)))

  idle : (actor : ActorData) → There a q actor
      → option_and_then (λ h. h.running) actor.hand ≡ None → running_in a q ≡ None
  idle actor there none = ap running_of there ∙ none

  start-mine : (t : ℕ) → Comes g a q s (starts a) (plan g t q (starts a))
  start-mine t = starts-by (Comes g a q s (starts a)) g a q (λ why. tt)
      (λ actor old there none st begun c.
      let new : ActorData = record actor { hand = st.move.hand } in
      inr (inl (
        idle old there none,
        subst IsFresh (sym (moved-runs a a actor st.move (record q { cells = c })
            ∙ put-mine (seat_of a) new old q.actors there)) (begun-fresh st begun),
        refl,
      )))
      (λ actor there none h. stays (starts a) _ _
      (gone-mine (seat_of a) q.actors ∙ sym (idle actor there none)) refl)
      t

  interrupted-mine : (d : Deed) (h : WorkInHand)
      → Leaves (Moves g a q s d) a (left_attempt (seat_of a) s) (interrupted_in a h q)
  interrupted-mine d h =
      is_over d _ _ (gone-mine (seat_of a) q.actors) (gone (seat_of a) s.mine.points)

  end-mine : (e : EndingData) (t : ℕ) → Comes g a q s (ends a e) (plan g t q (ends a e))
  end-mine e t = ends-by (Comes g a q s (ends a e)) g a q (λ why. tt) e
      (λ actor there h. interrupted-mine (ends a e) h)
      (λ actor there h form.
      let m : Move = form_ended h e.end (actor_state a q) in
      is_over (ends a e) _ _ (moved-runs a a actor m (with_cells_ended a h form e q)
      ∙ put-mine (seat_of a) (record actor { hand = m.hand }) actor q.actors there
      ∙ ended-none h e.end (actor_state a q)) (gone (seat_of a) s.mine.points))
      t

  ask-mine : (ask : AskData) (t : ℕ) → Comes g a q s (asks_for a ask) (plan g t q (asks_for a ask))
  ask-mine ask t = asks-by (Comes g a q s (asks_for a ask)) g a q (λ why. tt) ask
      (λ actor there h. closed h (performed s (call_of (seat_of a) ask)).told)
      (λ actor there h in_hand form runs.
      asked actor there h in_hand form runs (performed s (call_of (seat_of a) ask)).told refl)
      t
    where
      closed : (h : WorkInHand) (o : Option AnswerData)
          → Leaves (Moves g a q s (asks_for a ask)) a (given_up (seat_of a) s o).store
          (when_told (given_up (seat_of a) s o).told (λ _. interrupted_in a h q))
      closed h None = tt
      closed h (Some v) = interrupted-mine (asks_for a ask) h

      asked : (actor : ActorData) → There a q actor → (h : WorkInHand) → actor.hand ≡ Some h
          → (form : Run) → h.running ≡ Some form → (o : Option AnswerData)
          → (performed s (call_of (seat_of a) ask)).told ≡ o
          → Leaves (Moves g a q s (asks_for a ask)) a (performed s (call_of (seat_of a) ask)).store
          (when_told o (answer_outcome g a actor h form ask q))
      asked actor there h in_hand form runs None told = tt
      asked actor there h in_hand form runs (Some v) told =
          let more : Run = run_with (exchange_from ask (answer_to g a q ask v)) form in
          let new : ActorData = record actor { hand = Some (record h { running = Some more }) } in
          either
          (Leaves (Moves g a q s (asks_for a ask)) a (performed s (call_of (seat_of a) ask)).store)
          (must_wait (session_number a) ask q.cells) (refuses Refusal.Waiting)
          (ask_outcome g a actor h form ask q v) tt (inr (inr (inr (record {
            form = form;
            runs = ap running_of there ∙ ap (option_and_then (λ x. x.running)) in_hand ∙ runs;
            ask = ask;
            told = v;
            is = refl;
            tells = told;
            form_after = put-mine (seat_of a) new actor q.actors there;
            point_after = refl;
          }))))

-- Deeds of others

module _ (g : Ground) (a b : Actor) (q : TenantState) (s : Store) (apart : seat_of a ≢ seat_of b) where
  moved-other : (d : Deed) (actor old : ActorData) (m : Move) → There b q old → (p : Option ℕ)
      → p ≡ part_under (seat_of a) s.mine.points → (c : CellsData)
      → Moves g a q s d (running_in a (with_step_spent (after_move b actor m (record q { cells = c })))) p
  moved-other d actor old m there p here c =
      stays g a q s d _ _ (moved-runs a b actor m (record q { cells = c })
      ∙ put-other (seat_of a) (seat_of b) (record actor { hand = m.hand }) old q.actors apart there)
      here

  left-other : part_under (seat_of a) (left_attempt (seat_of b) s).mine.points
      ≡ part_under (seat_of a) s.mine.points
  left-other = part_under-without (seat_of a) (seat_of b) s.mine.points apart

  interrupted-other : (d : Deed) (h : WorkInHand) (new : Store)
      → part_under (seat_of a) new.mine.points ≡ part_under (seat_of a) s.mine.points
      → Leaves (Moves g a q s d) a new (interrupted_in b h q)
  interrupted-other d h new here =
      stays g a q s d _ _ (gone-other (seat_of a) (seat_of b) q.actors apart) here

  start-other : (t : ℕ) → Comes g a q s (starts b) (plan g t q (starts b))
  start-other t = starts-by (Comes g a q s (starts b)) g b q (λ why. tt)
      (λ actor old there none st begun c. moved-other (starts b) actor old st.move there _ refl c)
      (λ actor there none h. interrupted-other (starts b) h s refl) t

  end-other : (e : EndingData) (t : ℕ) → Comes g a q s (ends b e) (plan g t q (ends b e))
  end-other e t = ends-by (Comes g a q s (ends b e)) g b q (λ why. tt) e
      (λ actor there h. interrupted-other (ends b e) h (left_attempt (seat_of b) s) left-other)
      (λ actor there h form. moved-other (ends b e) actor actor
      (form_ended h e.end (actor_state b q)) there _ left-other
      (with_cells_ended b h form e q).cells)
      t

  ask-other : (ask : AskData) (t : ℕ) → Comes g a q s (asks_for b ask) (plan g t q (asks_for b ask))
  ask-other ask t = asks-by (Comes g a q s (asks_for b ask)) g b q (λ why. tt) ask
      (λ actor there h. closed h (performed s (call_of (seat_of b) ask)).told)
      (λ actor there h in_hand form runs.
      asked actor there h form (performed s (call_of (seat_of b) ask)).told refl)
      t
    where
      closed : (h : WorkInHand) (o : Option AnswerData)
          → Leaves (Moves g a q s (asks_for b ask)) a (given_up (seat_of b) s o).store
          (when_told (given_up (seat_of b) s o).told (λ _. interrupted_in b h q))
      closed h None = tt
      closed h (Some v) =
          interrupted-other (asks_for b ask) h (left_attempt (seat_of b) s) left-other

      asked : (actor : ActorData) → There b q actor → (h : WorkInHand) (form : Run)
          (o : Option AnswerData) → (performed s (call_of (seat_of b) ask)).told ≡ o
          → Leaves (Moves g a q s (asks_for b ask)) a (performed s (call_of (seat_of b) ask)).store
          (when_told o (answer_outcome g b actor h form ask q))
      asked actor there h form None told = tt
      asked actor there h form (Some v) told =
          let more : Run = run_with (exchange_from ask (answer_to g b q ask v)) form in
          let new : ActorData = record actor { hand = Some (record h { running = Some more }) } in
          either
          (Leaves (Moves g a q s (asks_for b ask)) a (performed s (call_of (seat_of b) ask)).store)
          (must_wait (session_number b) ask q.cells) (refuses Refusal.Waiting)
          (ask_outcome g b actor h form ask q v) tt (stays g a q s (asks_for b ask) _ _
          (put-other (seat_of a) (seat_of b) new actor q.actors apart there)
          (asked-others (seat_of a) (seat_of b) ask v s apart told))

-- Each deed

pub seat-same : (a b : Actor) → seat_of a ≡ seat_of b → a ≡ b
seat-same Actor.Agents Actor.Agents e = refl
seat-same Actor.Agents Actor.Bare e = absurd (omega (arith, e))
seat-same Actor.Agents (Actor.Session n) e = absurd (omega (arith, e))
seat-same Actor.Bare Actor.Agents e = absurd (omega (arith, e))
seat-same Actor.Bare Actor.Bare e = refl
seat-same Actor.Bare (Actor.Session n) e = absurd (omega (arith, e))
seat-same (Actor.Session n) Actor.Agents e = absurd (omega (arith, e))
seat-same (Actor.Session n) Actor.Bare e = absurd (omega (arith, e))
seat-same (Actor.Session n) (Actor.Session m) e =
    let same : n ≡ m = omega (arith, e) in ap (λ k. Actor.Session k) same

pub plan-moves : (g : Ground) (a : Actor) (q : TenantState) (s : Store) (t : ℕ) (d : Deed)
    → Comes g a q s d (plan g t q d)
plan-moves g a q s t (hears piece) =
    either (Leaves (Moves g a q s (hears piece)) a s) (q.steps == 0) _ _ tt
    (heard (stream_fault g.readings q.heard))
  where
    heard : (fault : Option WireFault)
        → Leaves (Moves g a q s (hears piece)) a s (hears_more g t piece q fault)
    heard (Some f) = tt
    heard None = either (Leaves (Moves g a q s (hears piece)) a s) (is_held q) _ _ tt
        (stays g a q s (hears piece) _ _ (heard-runs g t piece q a) refl)
plan-moves g a q s t (starts b) = elim (cases_eq (seat_of a) (seat_of b)) [
  | inl same ↦ subst (λ c. Comes g a q s (starts c) (plan g t q (starts c)))
      (seat-same a b same) (start-mine g a q s t)
  | inr apart ↦ start-other g a b q s apart t
]
plan-moves g a q s t (asks_for b ask) = elim (cases_eq (seat_of a) (seat_of b)) [
  | inl same ↦ subst (λ c. Comes g a q s (asks_for c ask) (plan g t q (asks_for c ask)))
      (seat-same a b same) (ask-mine g a q s ask t)
  | inr apart ↦ ask-other g a b q s apart ask t
]
plan-moves g a q s t (ends b e) = elim (cases_eq (seat_of a) (seat_of b)) [
  | inl same ↦ subst (λ c. Comes g a q s (ends c e) (plan g t q (ends c e)))
      (seat-same a b same) (end-mine g a q s e t)
  | inr apart ↦ end-other g a b q s apart e t
]
plan-moves g a q s t drains = by q.replies
  where
    by : (replies : List ReplyData)
        → Leaves (Moves g a q s drains) a s (drain_outcome q replies)
    by [] = tt
    by (oldest ∷ more) = stays g a q s drains _ _ refl refl
