-- What a step tells of an actor's form is what the step makes of it.
use Rattle.std.proofs.Common.{◌≡◌, ◌≢◌, ◌∙◌, ◌⊎◌, inl, inr, ℕ, ◌==◌, List, [], ◌∷◌, Bool, true, false}
use Rattle.std.proofs.Common.{Option, Some, None, option_and_then, option_map, refl, sym, ap, subst}
use Rattle.std.proofs.Common.{if◌then◌else◌, ◌&&◌, nat_le, length}
use Rattle.std.specs.Prelude.{⊤}
use Rattle.std.proofs.lemmas.Bool.{cases_eq, ne_eqb, eq-eqb}
use Rattle.bencode_wire.specs.declared.fault.WireFault.{WireFault}
use Rattle.repl_asks.specs.Exchange.{AskData, AnswerData}
use Rattle.repl_asks.specs.Job.{EndingData}
use Rattle.repl_replies.specs.Replies.{ReplyData, interrupted}
use Rattle.ref_table.specs.Numbered.{Entry, entry, part_under, with_part, without}
use Rattle.ref_table.specs.Store.{Store}
use Rattle.ref_table.specs.Performed.{Performed}
use Rattle.ref_table.specs.Calls.{performed, given_up}
use Rattle.server_rules.specs.Cells.{CellsData, must_wait}
use Rattle.server_rules.specs.Ground.{Ground}
use Rattle.server_rules.specs.Request.{WorkInHand, Run}
use Rattle.server_rules.specs.Tenant.{ActorData, unoccupied, seat_of, TenantState, is_held, actor_state}
use Rattle.server_rules.specs.Tenant.{with_replies}
use Rattle.server_rules.specs.Replying.{reply}
use Rattle.server_rules.specs.Moves.{Move, form_ended}
use Rattle.server_rules.specs.Hearing.{stream_fault, hears_more, taken_in, new_messages}
use Rattle.server_rules.specs.Starting.{Started, after_move, interrupted_in}
use Rattle.server_rules.specs.Asking.{call_of, session_number, answer_to, ask_outcome, answer_outcome}
use Rattle.server_rules.specs.Asking.{when_told, state_after, sender_of, with_recorded_answer}
use Rattle.server_rules.specs.Ending.{with_cells_ended}
use Rattle.server_rules.specs.Plan.{Deed, hears, starts, asks_for, ends, drains, StepAnswer}
use Rattle.server_rules.specs.Plan.{ask_answered, messages_heard, request_interrupted, form_finished}
use Rattle.server_rules.specs.Plan.{Outcome, refuses, leaves, Plan, with_step_spent}
use Rattle.server_rules.specs.Deeds.{drain_outcome, plan}
use Rattle.server_rules.specs.Machine.World.{TenantData, World, Step, opens, does, closes, Stepped}
use Rattle.server_rules.specs.Machine.World.{accepted, refused, opened_tenant, is_used, open_count}
use Rattle.server_rules.specs.Machine.World.{open_step, ended_as, deed_step, close_step, step}
use Rattle.server_rules.specs.declared.actor.Actor.{Actor}
use Rattle.server_rules.specs.declared.refusal.Refusal.{Refusal}
use Rattle.server_rules.proofs.Numbered.{none-some}
use Rattle.server_rules.proofs.Steps.{room}
use Rattle.tenant_asks.specs.Asking.{exchange_from, run_with}
use Rattle.tenant_world.specs.Running.{running_of, running_in}
use Rattle.repl_core.specs.Standing.{open_in, store_in}
use Rattle.repl_core.specs.AttemptsUnderWay.{form_in}
use Rattle.repl_core.specs.Forms.{is_deed_of, form_by_deed, form_by_step}
use Rattle.repl_core.proofs.ActorSteps.{HasBegun, There, either, put-mine, put-other, gone-mine}
use Rattle.repl_core.proofs.ActorSteps.{gone-other, moved-runs, ended-none, seat-same, starts-by}
use Rattle.repl_core.proofs.ActorSteps.{asks-by, ends-by}
use Rattle.repl_core.proofs.Places.{open-mine, open-others}
use Rattle.repl_core.proofs.Runs.{heard-runs}

-- A deed

-- the form that runs, if one does, is this
abbrev Covers : Actor → TenantState → Option Run → Type 0
Covers a q form = (run : Run) → running_in a q ≡ Some run → form ≡ Some run

-- behind the outcome it is what the deed and its answer tell, if the deed is the actor's
abbrev Tells : Bool → Actor → Deed → Option Run → Outcome → Type 0
Tells own a d form (refuses why) = ⊤
Tells own a d form (leaves q answer) =
    Covers a q (if own then form_by_deed d answer form else form)

-- the tenant behind an interruption
abbrev interrupted_state : Actor → WorkInHand → TenantState → TenantState
interrupted_state a h q = with_step_spent (with_replies (reply h.origin interrupted ∷ [])
    (record q { actors = without (seat_of a) q.actors }))

-- and behind an ask that is answered so
abbrev answered_state : Actor → ActorData → WorkInHand → Run → AskData → AnswerData → TenantState → TenantState
answered_state a actor h run ask answer q = with_step_spent
    (with_recorded_answer a actor h run ask answer (state_after (sender_of a h) ask answer q))

abbrev Comes : Bool → Actor → Store → Deed → Option Run → Plan → Type 0
Comes own a s d form p = Tells own a d form (p.next (performed s p.call).told)

module _ (g : Ground) (a : Actor) (q : TenantState) (s : Store) (form : Option Run)
    (covers : Covers a q form) where
  none-told : (own : Bool) (d : Deed) (answer : StepAnswer) (later : TenantState)
      → running_in a later ≡ None → Tells own a d form (leaves later answer)
  none-told own d answer later none = λ run is. absurd (none-some (sym none ∙ is))

  same-told : (d : Deed) (answer : StepAnswer) (later : TenantState) → running_in a later ≡ running_in a q
      → Tells false a d form (leaves later answer)
  same-told d answer later same = λ run is. covers run (sym same ∙ is)

  -- what the actor itself does

  begun-told : (st : Started) (later : TenantState) → HasBegun st
      → running_in a later ≡ option_and_then (λ h. h.running) st.move.hand
      → Tells true a (starts a) form (leaves later st.answer)
  begun-told st later begun same = λ run is.
      let so = begun run (sym same ∙ is) in
      subst (λ answer. form_by_deed (starts a) answer form ≡ Some run) (sym so.0)
      (ap (λ trace. Some (record { job = run.job; trace = trace })) (sym so.1))

  start-mine : (t : ℕ) → Comes true a s (starts a) form (plan g t q (starts a))
  start-mine t = starts-by (Comes true a s (starts a) form) g a q (λ why. tt)
      (λ actor old there none st begun c.
      let new : ActorData = record actor { hand = st.move.hand } in
      begun-told st (with_step_spent (after_move a actor st.move (record q { cells = c }))) begun
      (moved-runs a a actor st.move (record q { cells = c })
      ∙ put-mine (seat_of a) new old q.actors there))
      (λ actor there none h. none-told true (starts a) request_interrupted (interrupted_state a h q)
      (gone-mine (seat_of a) q.actors))
      t

  end-mine : (e : EndingData) (t : ℕ) → Comes true a s (ends a e) form (plan g t q (ends a e))
  end-mine e t = ends-by (Comes true a s (ends a e) form) g a q (λ why. tt) e
      (λ actor there h. none-told true (ends a e) request_interrupted (interrupted_state a h q)
      (gone-mine (seat_of a) q.actors))
      (λ actor there h run.
      let m : Move = form_ended h e.end (actor_state a q) in
      none-told true (ends a e) form_finished
      (with_step_spent (after_move a actor m (with_cells_ended a h run e q)))
      (moved-runs a a actor m (with_cells_ended a h run e q)
      ∙ put-mine (seat_of a) (record actor { hand = m.hand }) actor q.actors there
      ∙ ended-none h e.end (actor_state a q)))
      t

  ask-mine : (ask : AskData) (t : ℕ)
      → Comes true a s (asks_for a ask) form (plan g t q (asks_for a ask))
  ask-mine ask t = asks-by (Comes true a s (asks_for a ask) form) g a q (λ why. tt) ask
      (λ actor there h. closed h (performed s (call_of (seat_of a) ask)).told)
      (λ actor there h in_hand run runs.
      asked actor there h in_hand run runs (performed s (call_of (seat_of a) ask)).told)
      t
    where
      closed : (h : WorkInHand) (o : Option AnswerData)
          → Tells true a (asks_for a ask) form
          (when_told (given_up (seat_of a) s o).told (λ _. interrupted_in a h q))
      closed h None = tt
      closed h (Some v) = none-told true (asks_for a ask) request_interrupted (interrupted_state a h q)
          (gone-mine (seat_of a) q.actors)

      asked : (actor : ActorData) → There a q actor → (h : WorkInHand) → actor.hand ≡ Some h
          → (run : Run) → h.running ≡ Some run → (o : Option AnswerData)
          → Tells true a (asks_for a ask) form
          (when_told o (answer_outcome g a actor h run ask q))
      asked actor there h in_hand run runs None = tt
      asked actor there h in_hand run runs (Some v) =
          let answer : AnswerData = answer_to g a q ask v in
          let more : Run = run_with (exchange_from ask answer) run in
          let new : ActorData = record actor { hand = Some (record h { running = Some more }) } in
          let was : running_in a q ≡ Some run = ap running_of there
          ∙ ap (option_and_then (λ x. x.running)) in_hand ∙ runs in
          either (Tells true a (asks_for a ask) form) (must_wait (session_number a) ask q.cells)
          (refuses Refusal.Waiting) (ask_outcome g a actor h run ask q v) tt
          (λ other is. ap (option_map (run_with (exchange_from ask answer))) (covers run was)
          ∙ sym (put-mine (seat_of a) new actor q.actors there) ∙ is)

module _ (g : Ground) (a b : Actor) (q : TenantState) (s : Store) (form : Option Run)
    (covers : Covers a q form) (apart : seat_of a ≢ seat_of b) where
  moved-other : (d : Deed) (answer : StepAnswer) (actor old : ActorData) (m : Move)
      → There b q old → (c : CellsData)
      → Tells false a d form
      (leaves (with_step_spent (after_move b actor m (record q { cells = c }))) answer)
  moved-other d answer actor old m there c = same-told g a q s form covers d answer
      (with_step_spent (after_move b actor m (record q { cells = c })))
      (moved-runs a b actor m (record q { cells = c })
      ∙ put-other (seat_of a) (seat_of b) (record actor { hand = m.hand }) old q.actors apart there)

  interrupted-other : (d : Deed) (h : WorkInHand) → Tells false a d form (interrupted_in b h q)
  interrupted-other d h = same-told g a q s form covers d request_interrupted
      (interrupted_state b h q) (gone-other (seat_of a) (seat_of b) q.actors apart)

  start-other : (t : ℕ) → Comes false a s (starts b) form (plan g t q (starts b))
  start-other t = starts-by (Comes false a s (starts b) form) g b q (λ why. tt)
      (λ actor old there none st begun c. moved-other (starts b) st.answer actor old st.move there c)
      (λ actor there none h. interrupted-other (starts b) h) t

  end-other : (e : EndingData) (t : ℕ) → Comes false a s (ends b e) form (plan g t q (ends b e))
  end-other e t = ends-by (Comes false a s (ends b e) form) g b q (λ why. tt) e
      (λ actor there h. interrupted-other (ends b e) h)
      (λ actor there h run. moved-other (ends b e) form_finished actor actor
      (form_ended h e.end (actor_state b q)) there (with_cells_ended b h run e q).cells)
      t

  ask-other : (ask : AskData) (t : ℕ)
      → Comes false a s (asks_for b ask) form (plan g t q (asks_for b ask))
  ask-other ask t = asks-by (Comes false a s (asks_for b ask) form) g b q (λ why. tt) ask
      (λ actor there h. closed h (performed s (call_of (seat_of b) ask)).told)
      (λ actor there h in_hand run runs.
      asked actor there h run (performed s (call_of (seat_of b) ask)).told)
      t
    where
      closed : (h : WorkInHand) (o : Option AnswerData)
          → Tells false a (asks_for b ask) form
          (when_told (given_up (seat_of b) s o).told (λ _. interrupted_in b h q))
      closed h None = tt
      closed h (Some v) = interrupted-other (asks_for b ask) h

      asked : (actor : ActorData) → There b q actor → (h : WorkInHand) (run : Run)
          (o : Option AnswerData)
          → Tells false a (asks_for b ask) form
          (when_told o (answer_outcome g b actor h run ask q))
      asked actor there h run None = tt
      asked actor there h run (Some v) =
          let answer : AnswerData = answer_to g b q ask v in
          let more : Run = run_with (exchange_from ask answer) run in
          let new : ActorData = record actor { hand = Some (record h { running = Some more }) } in
          either (Tells false a (asks_for b ask) form) (must_wait (session_number b) ask q.cells)
          (refuses Refusal.Waiting) (ask_outcome g b actor h run ask q v) tt
          (same-told g a q s form covers (asks_for b ask) (ask_answered answer)
          (answered_state b actor h run ask answer q)
          (put-other (seat_of a) (seat_of b) new actor q.actors apart there))

own-so : (a b : Actor) (P : Bool → Type 0) → seat_of a ≡ seat_of b → P true
    → P (seat_of a == seat_of b)
own-so a b P same h = subst P (sym (eq-eqb (seat_of a) (seat_of b) same)) h

other-so : (a b : Actor) (P : Bool → Type 0) → seat_of a ≢ seat_of b → P false
    → P (seat_of a == seat_of b)
other-so a b P apart h = subst P (sym (ne_eqb (seat_of a) (seat_of b) apart)) h

plan-tells : (g : Ground) (a : Actor) (q : TenantState) (s : Store) (form : Option Run)
    → Covers a q form → (t : ℕ) (d : Deed)
    → Comes (is_deed_of a d) a s d form (plan g t q d)
plan-tells g a q s form covers t (hears piece) =
    either (Tells false a (hears piece) form) (q.steps == 0) (refuses Refusal.Worn)
    (hears_more g t piece q (stream_fault g.readings q.heard)) tt
    (heard (stream_fault g.readings q.heard))
  where
    heard : (fault : Option WireFault)
        → Tells false a (hears piece) form (hears_more g t piece q fault)
    heard (Some f) = tt
    heard None =
        let answer : StepAnswer =
        messages_heard (length (new_messages g.readings q.heard piece)) in
        let later : TenantState = with_step_spent (taken_in g t piece q) in
        either (Tells false a (hears piece) form) (is_held q) (refuses Refusal.Held)
        (leaves later answer) tt
        (same-told g a q s form covers (hears piece) answer later (heard-runs g t piece q a))
plan-tells g a q s form covers t (starts b) = elim (cases_eq (seat_of a) (seat_of b)) [
  | inl same ↦ own-so a b (λ own. Comes own a s (starts b) form (plan g t q (starts b))) same
      (subst (λ c. Comes true a s (starts c) form (plan g t q (starts c)))
      (seat-same a b same) (start-mine g a q s form covers t))
  | inr apart ↦ other-so a b (λ own. Comes own a s (starts b) form (plan g t q (starts b))) apart
      (start-other g a b q s form covers apart t)
]
plan-tells g a q s form covers t (asks_for b ask) = elim (cases_eq (seat_of a) (seat_of b)) [
  | inl same ↦
      own-so a b (λ own. Comes own a s (asks_for b ask) form (plan g t q (asks_for b ask))) same
      (subst (λ c. Comes true a s (asks_for c ask) form (plan g t q (asks_for c ask)))
      (seat-same a b same) (ask-mine g a q s form covers ask t))
  | inr apart ↦
      other-so a b (λ own. Comes own a s (asks_for b ask) form (plan g t q (asks_for b ask))) apart
      (ask-other g a b q s form covers apart ask t)
]
plan-tells g a q s form covers t (ends b e) = elim (cases_eq (seat_of a) (seat_of b)) [
  | inl same ↦ own-so a b (λ own. Comes own a s (ends b e) form (plan g t q (ends b e))) same
      (subst (λ c. Comes true a s (ends c e) form (plan g t q (ends c e)))
      (seat-same a b same) (end-mine g a q s form covers e t))
  | inr apart ↦ other-so a b (λ own. Comes own a s (ends b e) form (plan g t q (ends b e))) apart
      (end-other g a b q s form covers apart e t)
]
plan-tells g a q s form covers t drains = drained q.replies
  where
    drained : (replies : List ReplyData) → Tells false a drains form (drain_outcome q replies)
    drained [] = tt
    drained (oldest ∷ more) = λ run is. covers run is

-- A step of the server

-- the form of the actor that runs, if one does, is this
abbrev pub CoversIn : ℕ → Actor → World → Option Run → Type 0
CoversIn t a w form = (run : Run) → form_in t a w ≡ Some run → form ≡ Some run

abbrev StepTells : ℕ → Actor → Step → Option Run → Stepped → Type 0
StepTells t a s form (refused why) = ⊤
StepTells t a s form (accepted w answer) = CoversIn t a w (form_by_step t a s answer form)

form-at : (a : Actor) (o p : Option TenantData) → o ≡ p
    → option_and_then (λ kept. running_in a kept.state) o
    ≡ option_and_then (λ kept. running_in a kept.state) p
form-at a o p e = ap (option_and_then (λ kept. running_in a kept.state)) e

module _ (g : Ground) (w : World) (t : ℕ) (a : Actor) (form : Option Run)
    (covers : CoversIn t a w form) where
  same-covers : (later : World) → open_in t later ≡ open_in t w → CoversIn t a later form
  same-covers later same = λ run is. covers run (sym (form-at a _ _ same) ∙ is)

  none-covers : (later : World) (o : Option Run) → form_in t a later ≡ None → CoversIn t a later o
  none-covers later o none = λ run is. absurd (none-some (sym none ∙ is))

  ended-mine : (u : ℕ) (d : Deed) (kept : TenantData) (new : Store) (o : Outcome)
      → open_in t w ≡ Some kept → (t == u) ≡ true → t ≡ u
      → Tells (is_deed_of a d) a d form o → StepTells t a (does u d) form (ended_as w u new o)
  ended-mine u d kept new (refuses why) there own same tells = tt
  ended-mine u d kept new (leaves q answer) there own same tells = λ run is.
      let part : TenantData = record { state = q; mine = new.mine } in
      let later : World = record { around = new.around; tenants = with_tenants u (Some part) } in
      let open_here : open_in u w ≡ Some kept = ap (λ k. open_in k w) (sym same) ∙ there in
      let mine : open_in t later ≡ Some part =
      ap (λ k. open_in k later) same ∙ open-mine w new.around u (Some part) kept open_here in
      ap (λ b. if b && is_deed_of a d then form_by_deed d answer form else form) own
      ∙ tells run (sym (form-at a _ (Some part) mine) ∙ is)
    where
      with_tenants : ℕ → Option TenantData → List (Entry (Option TenantData))
      with_tenants n part = with_part n part w.tenants

  ended-other : (u : ℕ) (d : Deed) (kept : TenantData) (new : Store) (o : Outcome)
      → open_in u w ≡ Some kept → (t == u) ≡ false → t ≢ u
      → StepTells t a (does u d) form (ended_as w u new o)
  ended-other u d kept new (refuses why) there other apart = tt
  ended-other u d kept new (leaves q answer) there other apart = λ run is.
      let part : TenantData = record { state = q; mine = new.mine } in
      ap (λ b. if b && is_deed_of a d then form_by_deed d answer form else form) other
      ∙ same-covers (record { around = new.around; tenants = with_part u (Some part) w.tenants })
      (open-others w new.around u t (Some part) kept there apart) run is

  deed-tells : (u : ℕ) (d : Deed) (o : Option (Option TenantData)) → part_under u w.tenants ≡ o
      → StepTells t a (does u d) form (deed_step g w u d o)
  deed-tells u d None is = tt
  deed-tells u d (Some None) is = tt
  deed-tells u d (Some (Some kept)) is = by (cases_eq t u)
    where
      there : open_in u w ≡ Some kept
      there = ap (option_and_then (λ part. part)) is

      s : Store
      s = store_in w.around u kept.mine

      called : Performed Store
      called = performed s (plan g u kept.state d).call

      o : Outcome
      o = (plan g u kept.state d).next called.told

      by : (t ≡ u) ⊎ (t ≢ u) → StepTells t a (does u d) form (ended_as w u called.store o)
      by (inl same) =
          let here : open_in t w ≡ Some kept = ap (λ k. open_in k w) same ∙ there in
          ended-mine u d kept called.store o here (eq-eqb t u same) same
          (plan-tells g a kept.state s form
          (λ run is. covers run (form-at a _ (Some kept) here ∙ is)) u d)
      by (inr apart) = ended-other u d kept called.store o there (ne_eqb t u apart) apart

  open-tells : (u : ℕ) → StepTells t a (opens u) form (open_step g w u)
  open-tells u = by (is_used u w.tenants)
    where
      found : Bool → Option TenantData
      found b = option_and_then (λ part. part)
          (if b then Some (Some (opened_tenant g)) else part_under t w.tenants)

      unoccupied-none : (b c : Bool)
          → running_of (if b then Some unoccupied else if c then Some unoccupied else None) ≡ None
      unoccupied-none true c = refl
      unoccupied-none false true = refl
      unoccupied-none false false = refl

      with_it : World
      with_it = record w { tenants = entry u (Some (opened_tenant g)) ∷ w.tenants }

      added : (b : Bool) → (t == u) ≡ b → CoversIn t a with_it form
      added true same = none-covers with_it form (form-at a _ (Some (opened_tenant g)) (ap found same)
          ∙ unoccupied-none (seat_of a == 0) (seat_of a == 1))
      added false other = same-covers with_it (ap found other)

      full : (b : Bool) → StepTells t a (opens u) form (room g w u b)
      full true = tt
      full false = added (t == u) refl

      by : (b : Bool) → StepTells t a (opens u) form (if b then refused Refusal.NumberUsed
          else room g w u (nat_le g.places (open_count w.tenants)))
      by true = tt
      by false = full (nat_le g.places (open_count w.tenants))

  close-tells : (u : ℕ) (o : Option (Option TenantData)) → part_under u w.tenants ≡ o
      → StepTells t a (closes u) form (close_step w u o)
  close-tells u None is = tt
  close-tells u (Some None) is = tt
  close-tells u (Some (Some kept)) is = by (cases_eq t u)
    where
      there : open_in u w ≡ Some kept
      there = ap (option_and_then (λ part. part)) is

      without_it : World
      without_it = record { around = w.around; tenants = with_part u None w.tenants }

      by : (t ≡ u) ⊎ (t ≢ u) → StepTells t a (closes u) form (close_step w u (Some (Some kept)))
      by (inl same) = none-covers without_it form (form-at a (open_in t without_it) None
          (ap (λ k. open_in k without_it) same ∙ open-mine w w.around u None kept there))
      by (inr apart) = same-covers without_it (open-others w w.around u t None kept there apart)

  every-step : (s : Step) → StepTells t a s form (step g w s)
  unfolding step
  every-step (opens u) = open-tells u
  every-step (does u d) = deed-tells u d (part_under u w.tenants) refl
  every-step (closes u) = close-tells u (part_under u w.tenants) refl

  pub step-tells : (s : Step) (later : World) (answer : StepAnswer)
      → step g w s ≡ accepted later answer → CoversIn t a later (form_by_step t a s answer form)
  step-tells s later answer is = subst (StepTells t a s form) is (every-step s)
