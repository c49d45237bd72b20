-- The steps of an actor, beside the deeds of the tenant.
use Rattle.std.proofs.Common.{◌≡◌, ◌<◌, ◌-◌, ◌==◌, ℕ, zero, suc, List, [], ◌∷◌, Bool, true, false}
use Rattle.std.proofs.Common.{None, Some, refl, sym, ap, subst, ◌∙◌, if◌then◌else◌, arith, ◌≢◌}
use Rattle.std.proofs.Common.{Result, Ok, Err, IfErr, Option, ◌||◌, is_some, true≢false}
use Rattle.std.specs.Result.{IsErrAnd}
use Rattle.std.proofs.Math.Dec.{eqb-suc-zero}
use Rattle.std.proofs.lemmas.Bool.{eqb-true, ne_eqb}
use Rattle.bencode_wire.specs.Inside.Decoder as decoder
use Rattle.bencode_wire.specs.declared.decoder.Decoder.{Decoder}
use Rattle.private_cells.specs.Agents.{AgentsData}
use Rattle.repl_asks.specs.Exchange.{AskData}
use Rattle.ref_table.specs.Numbered.{Entry, entry, part_under, with_part}
use Rattle.server_rules.specs.Ground.{Ground}
use Rattle.server_rules.specs.Readings.{message_limit}
use Rattle.server_rules.specs.Machine.Ready.{has_waiting}
use Rattle.server_rules.specs.Request.{Waiting, WorkInHand}
use Rattle.server_rules.specs.Starting.{start_waiting, start_action, action_for}
use Rattle.ref_table.specs.Store.{Store}
use Rattle.server_rules.specs.Tenant.{ActorData, TenantState, seat_of}
use Rattle.server_rules.specs.Plan as deeds
use Rattle.server_rules.specs.Plan.{StepAnswer, refuses, Plan, quietly}
use Rattle.server_rules.specs.Plan.{with_step_spent}
use Rattle.repl_asks.specs.Job.{EndingData}
use Rattle.server_rules.specs.Deeds.{for_actor, unless_worn, start_of}
use Rattle.server_rules.specs.Asking.{asked_of}
use Rattle.server_rules.specs.Ending.{end_of}
use Rattle.server_rules.specs.declared.actor.Actor.{Actor}
use Rattle.server_rules.specs.declared.refusal.Refusal.{Refusal}
use Rattle.tenant_parts.specs.Busy.{is_busy}
use Rattle.tenant_parts.specs.View.{actors_view}
use Rattle.tenant_parts.proofs.EntryLaws.{found_first, replaced_first, without-with_part}
use Rattle.server_rules.specs.DeedResult.{DeedResult, carried_out, deed_result}
use Rattle.tenant_parts.specs.Attempts.{Reaches}
use Rattle.tenant_parts.specs.declared.attempts.Attempts.{Attempts}
use Rattle.tenant_parts.proofs.Calls.{performed-tenant}
use Rattle.tenant_parts.proofs.Points.{part_under-without}
use Rattle.tenant_asks.specs.declared.memory.Remembered.{Remembered}
use Rattle.tenant_world.specs.declared.tenant.Tenant.{Tenant}
use Rattle.tenant_asks.specs.Memories.{Remembers}
use Rattle.tenant_asks.specs.Acting.{AcceptsOutcome, RefusesOutcome, actors_after, is_interruption}
use Rattle.tenant_asks.specs.Acting.{is_accepted}
use Rattle.tenant_world.specs.Acting.{left_after}
use Rattle.tenant_world.specs.Lending.{unless_busy, unlent}
use Rattle.tenant_world.specs.Standing.{StandsForState, Lends, AcceptsDeedBy, RefusesDeed}

-- Deeds of an actor

-- what the plans of an actor's deeds come to
abbrev pub by_actor : Store → TenantState → Actor → (ActorData → Plan) → DeedResult
by_actor s q a p = carried_out s (unless_worn q (for_actor (part_under (seat_of a) q.actors) p))

pub starts-by : (g : Ground) (q : TenantState) (s : Store) (a : Actor) → deed_result g s q (deeds.starts a)
    ≡ by_actor s q a (λ actor. quietly (start_of g a actor q actor.hand))
unfolding deed_result
starts-by g q s a = refl

pub asks-by : (g : Ground) (q : TenantState) (s : Store) (a : Actor) (ask : AskData)
    → deed_result g s q (deeds.asks_for a ask)
    ≡ by_actor s q a (λ actor. asked_of g a actor ask q actor.hand)
unfolding deed_result
asks-by g q s a ask = refl

pub ends-by : (g : Ground) (q : TenantState) (s : Store) (a : Actor) (e : EndingData)
    → deed_result g s q (deeds.ends a e)
    ≡ by_actor s q a (λ actor. end_of g a actor e q actor.hand)
unfolding deed_result
ends-by g q s a e = refl

pub not-zero : (n : ℕ) → (n ≡ 0 → ⊥) → (n == 0) ≡ false
not-zero zero none = absurd (none refl)
not-zero (suc n) none = eqb-suc-zero n

abbrev pub worn_by : TenantState → Actor → (ActorData → Plan) → Bool → Plan
worn_by q a p b = if b then quietly (refuses Refusal.Worn)
    else for_actor (part_under (seat_of a) q.actors) p

-- steps are left, and the actor is there
pub done-by : (q : TenantState) (s : Store) (a : Actor) (p : ActorData → Plan) (actor : ActorData)
    → 0 < q.steps → part_under (seat_of a) q.actors ≡ Some actor
    → by_actor s q a p ≡ carried_out s (p actor)
done-by q s a p actor some there =
    ap (λ (b : Bool). carried_out s (worn_by q a p b)) (not-zero q.steps (left q.steps some))
    ∙ ap (λ it. carried_out s (for_actor it p)) there
  where
    left : (n : ℕ) → 0 < n → n ≡ 0 → ⊥
    left n some none = let never : 0 < 0 = subst (λ k. 0 < k) none some in omega (arith, never)

-- no step is left
pub worn-by : (q : TenantState) (s : Store) (a : Actor) (p : ActorData → Plan) → (q.steps == 0) ≡ true
    → (by_actor s q a p).outcome ≡ refuses Refusal.Worn
worn-by q s a p none = ap (λ (b : Bool). (carried_out s (worn_by q a p b)).outcome) none

pub carried-tenant : (s : Store) (p : Plan) → (carried_out s p).store.tenant ≡ s.tenant
carried-tenant s p = performed-tenant s p.call

-- An actor that makes no step

-- an actor that has nothing to do, and to which no actions come
pub record IsIdle (a : Actor) (actor : ActorData) : Type 0 where
  pub idle : is_busy actor ≡ false
  pub none : (agents : AgentsData) → action_for a agents ≡ None

-- the deed is refused so to it
abbrev pub RefusesIdle : Actor → (ActorData → Plan) → Type 0
RefusesIdle a p = (actor : ActorData) → IsIdle a actor → p actor ≡ quietly (refuses Refusal.Idle)

none-waiting : (g : Ground) (a : Actor) (actor : ActorData) (q : TenantState) (ws : List Waiting)
    → action_for a q.cells.agents ≡ None → has_waiting ws ≡ false
    → start_waiting g a actor q ws ≡ refuses Refusal.Idle
none-waiting g a actor q [] none idle = ap (start_action g a actor q) none
none-waiting g a actor q (w ∷ ws) none idle = absurd (true≢false idle)

none-begins : (g : Ground) (a : Actor) (actor : ActorData) (q : TenantState) (h : Option WorkInHand)
    → action_for a q.cells.agents ≡ None
    → (is_some h || has_waiting actor.waiting) ≡ false
    → start_of g a actor q h ≡ refuses Refusal.Idle
none-begins g a actor q None none idle = none-waiting g a actor q actor.waiting none idle
none-begins g a actor q (Some h) none idle = absurd (true≢false idle)

pub starts-idle : (g : Ground) (a : Actor) (q : TenantState)
    → RefusesIdle a (λ actor. quietly (start_of g a actor q actor.hand))
starts-idle g a q actor i =
    ap quietly (none-begins g a actor q actor.hand (i.none q.cells.agents) i.idle)

pub some-left : (n : ℕ) → (n ≡ 0 → ⊥) → 0 < n
some-left zero none = absurd (none refl)
some-left (suc n) none = omega arith

-- an actor that is there with nothing to do, and to which no action comes now, begins nothing
pub begins-nothing : (g : Ground) (q : TenantState) (s : Store) (a : Actor) (actor : ActorData)
    → 0 < q.steps → part_under (seat_of a) q.actors ≡ Some actor → is_busy actor ≡ false
    → action_for a q.cells.agents ≡ None
    → (deed_result g s q (deeds.starts a)).outcome ≡ refuses Refusal.Idle
begins-nothing g q s a actor some there idle none =
    ap (λ d. d.outcome) (starts-by g q s a
    ∙ done-by q s a (λ it. quietly (start_of g a it q it.hand)) actor some there
    ∙ ap (λ o. carried_out s (quietly o)) (none-begins g a actor q actor.hand none idle))

none-asks : (g : Ground) (a : Actor) (actor : ActorData) (ask : AskData) (q : TenantState)
    (h : Option WorkInHand) → (is_some h || has_waiting actor.waiting) ≡ false
    → asked_of g a actor ask q h ≡ quietly (refuses Refusal.Idle)
none-asks g a actor ask q None idle = refl
none-asks g a actor ask q (Some h) idle = absurd (true≢false idle)

pub asks-idle : (g : Ground) (a : Actor) (ask : AskData) (q : TenantState)
    → RefusesIdle a (λ actor. asked_of g a actor ask q actor.hand)
asks-idle g a ask q actor i = none-asks g a actor ask q actor.hand i.idle

none-ends : (g : Ground) (a : Actor) (actor : ActorData) (e : EndingData) (q : TenantState)
    (h : Option WorkInHand) → (is_some h || has_waiting actor.waiting) ≡ false
    → end_of g a actor e q h ≡ quietly (refuses Refusal.Idle)
none-ends g a actor e q None idle = refl
none-ends g a actor e q (Some h) idle = absurd (true≢false idle)

pub ends-idle : (g : Ground) (a : Actor) (e : EndingData) (q : TenantState)
    → RefusesIdle a (λ actor. end_of g a actor e q actor.hand)
ends-idle g a e q actor i = none-ends g a actor e q actor.hand i.idle

idle-so : (b : Bool) (why : Refusal) → (if b then None else Some Refusal.Idle) ≡ Some why
    → (Refusal.Idle ≡ why) × (b ≡ false)
idle-so true why h = absurd (cc)
idle-so false why h = (cc, refl)

unless-idle : (a : Actor) (actor : ActorData) (why : Refusal) → unless_busy a actor ≡ Some why
    → (Refusal.Idle ≡ why) × IsIdle a actor
unless-idle Actor.Agents actor why h = absurd (cc)
unless-idle Actor.Bare actor why h =
    let both = idle-so (is_busy actor) why h in
    (both.0, record { idle = both.1; none = λ agents. refl })
unless-idle (Actor.Session n) actor why h =
    let both = idle-so (is_busy actor) why h in
    (both.0, record { idle = both.1; none = λ agents. refl })

unlent-so : (s : Store) (a : Actor) (p : ActorData → Plan) (why : Refusal) → RefusesIdle a p
    → (b : Bool) (o : Option ActorData) → unlent a b o ≡ Some why
    → (carried_out s (if b then quietly (refuses Refusal.Worn) else for_actor o p)).outcome
    ≡ refuses why
unlent-so s a p why idle true o h = let same : Refusal.Worn ≡ why = cc in ap refuses same
unlent-so s a p why idle false None h =
    let same : Refusal.NoSuchActor ≡ why = cc in ap refuses same
unlent-so s a p why idle false (Some actor) h =
    let both = unless-idle a actor why h in
    ap (λ it. (carried_out s it).outcome) (idle actor both.1) ∙ ap refuses both.0

-- its deed is refused
pub refused-by : (g : Ground) (q : TenantState) (s : Store) (a : Actor) (p : ActorData → Plan)
    (code : Tenant) (why : Refusal) → StandsForState g code q s → RefusesIdle a p
    → unlent a (code.steps == 0) (part_under (seat_of a) (actors_view code.actors)) ≡ Some why
    → (by_actor s q a p).outcome ≡ refuses why
refused-by g q s a p code why stands idle h =
    unlent-so s a p why idle (q.steps == 0) (part_under (seat_of a) q.actors)
    (sym (ap (λ n. unlent a (n == 0) (part_under (seat_of a) (actors_view code.actors))) stands.steps
    ∙ ap (λ es. unlent a (q.steps == 0) (part_under (seat_of a) es)) stands.actors) ∙ h)

-- Entries

pub with_part-same : {A : Type 0} (n : ℕ) (x : A) (es : List (Entry A)) → part_under n es ≡ Some x
    → with_part n x es ≡ es
with_part-same n x [] there = refl
with_part-same {A} n x (e ∷ es) there = by (λ h. with_part-same n x es h) (n == e.number) refl there
  where
    by : (part_under n es ≡ Some x → with_part n x es ≡ es) → (b : Bool) → (n == e.number) ≡ b
        → found_first b e.part (part_under n es) ≡ Some x → replaced_first b n x e es ≡ e ∷ es
    by behind true same h =
        let here : e.part ≡ x = cc in
        ap (λ k. entry k x ∷ es) (eqb-true n e.number same)
        ∙ ap (λ y. entry e.number y ∷ es) (sym here)
    by behind false apart h = ap (λ (l : List (Entry A)). e ∷ l) (behind h)

-- another number finds what it found
part_under-apart : {A : Type 0} (m n : ℕ) (x : A) (es : List (Entry A)) → m ≢ n
    → part_under m (with_part n x es) ≡ part_under m es
part_under-apart m n x [] apart = refl
part_under-apart {A} m n x (e ∷ es) apart = by (part_under-apart m n x es apart) (n == e.number) refl
  where
    by : part_under m (with_part n x es) ≡ part_under m es → (b : Bool) → (n == e.number) ≡ b
        → part_under m (replaced_first b n x e es) ≡ found_first (m == e.number) e.part (part_under m es)
    by behind true same =
        ap (λ (b : Bool). found_first b x (part_under m es)) (ne_eqb m n apart)
        ∙ sym (ap (λ (b : Bool). found_first b e.part (part_under m es))
        (ap (λ k. m == k) (sym (eqb-true n e.number same)) ∙ ne_eqb m n apart))
    by behind false other = ap (λ it. found_first (m == e.number) e.part it) behind

part_under-left : (gone : Bool) (a b : Actor) (x : ActorData) (es : List (Entry ActorData))
    → seat_of b ≢ seat_of a → part_under (seat_of b) (actors_after gone a x es) ≡ part_under (seat_of b) es
part_under-left true a b x es apart = part_under-without (seat_of b) (seat_of a) es apart
part_under-left false a b x es apart = part_under-apart (seat_of b) (seat_of a) x es apart

-- The code

left-again : (b : Bool) (a : Actor) (x : ActorData) (es : List (Entry ActorData))
    → left_after b a (with_part (seat_of a) x es) ≡ actors_after b a x es
left-again true a x es = without-with_part (seat_of a) x es
left-again false a x es = refl

pub lends-from : (g : Ground) (a : Actor) (actor : ActorData) (old new : Tenant) (q : TenantState)
    (s : Store) → StandsForState g old q s → new.retries ≡ old.retries → new.steps ≡ old.steps
    → new.decoder ≡ old.decoder
    → actors_view new.actors ≡ with_part (seat_of a) actor (actors_view old.actors)
    → Lends g a actor new q
lends-from g a actor old new q s st tries steps same put =
    let E : Decoder → Type 0 = λ d.
    decoder.DecoderStands message_limit d q.heard (g.readings.stream q.heard).messages in
    record {
      retries = tries ∙ st.retries;
      steps = steps ∙ st.steps;
      stream = subst E (sym same) st.stream;
      actors = put ∙ ap (with_part (seat_of a) actor) st.actors;
    }

pub settled : (g : Ground) (a : Actor) (old new : Tenant) (q after : TenantState) (s : Store) (b : Bool)
    (actor : ActorData) → Lends g a actor old q → Remembers g s.tenant old.memory after
    → Reaches old.attempts s → after.actors ≡ actors_after b a actor q.actors
    → after.steps ≡ q.steps → after.heard ≡ q.heard
    → new.retries ≡ old.retries → new.steps ≡ old.steps - 1 → new.decoder ≡ old.decoder
    → new.memory ≡ old.memory → new.attempts ≡ old.attempts
    → actors_view new.actors ≡ left_after b a (actors_view old.actors)
    → StandsForState g new (with_step_spent after) s
settled g a old new q after s b actor lends r reaches actors steps heard tries less same kept tried put =
    let D : List ℕ → Type 0 = λ all.
    decoder.DecoderStands message_limit old.decoder all (g.readings.stream all).messages in
    let E : Decoder → Type 0 = λ d.
    decoder.DecoderStands message_limit d after.heard (g.readings.stream after.heard).messages in
    let M : Remembered → Type 0 = λ m. Remembers g s.tenant m after in
    let A : Attempts → Type 0 = λ x. Reaches x s in
    let there = subst M (sym kept) r in
    record {
      retries = tries ∙ lends.retries;
      steps = less ∙ ap (λ n. n - 1) (lends.steps ∙ sym steps);
      stream = subst E (sym same) (subst D (sym heard) lends.stream);
      actors = put ∙ ap (left_after b a) lends.actors ∙ left-again b a actor q.actors ∙ sym actors;
      remembers = record {
        sessions = there.sessions;
        bare = there.bare;
        spaces = there.spaces;
        names = there.names;
        cells = there.cells;
        replies = there.replies;
      };
      attempts = subst A (sym tried) reaches;
    }

-- a refused step left the actor as it was
pub restored : (g : Ground) (a : Actor) (code : Tenant) (q : TenantState) (s : Store) (actor : ActorData)
    → Lends g a actor code q → Remembers g s.tenant code.memory q → Reaches code.attempts s
    → part_under (seat_of a) q.actors ≡ Some actor → StandsForState g code q s
restored g a code q s actor lends r reaches there = record {
  retries = lends.retries;
  steps = lends.steps;
  stream = lends.stream;
  actors = lends.actors ∙ with_part-same (seat_of a) actor q.actors there;
  remembers = r;
  attempts = reaches;
}

-- an actor's step that was accepted is the tenant's deed
pub does-acted : (g : Ground) (t : ℕ) (a : Actor) (q : TenantState) (s : Store) (p : ActorData → Plan)
    (deed : DeedResult) (old_actor : ActorData) (m : Remembered) (actor : ActorData) (answer : StepAnswer)
    (new : Tenant)
    → deed ≡ by_actor s q a p → 0 < q.steps → part_under (seat_of a) q.actors ≡ Some old_actor
    → AcceptsOutcome g t a q (carried_out s (p old_actor)).outcome m actor answer
    → ((after : TenantState) → Remembers g t m after
    → after.actors ≡ actors_after (is_interruption answer) a actor q.actors
    → after.steps ≡ q.steps → after.heard ≡ q.heard
    → StandsForState g new (with_step_spent after) (carried_out s (p old_actor)).store)
    → AcceptsDeedBy g a q deed new answer
does-acted g t a q s p deed old_actor m actor answer new is some there acted settles =
    let same : deed ≡ carried_out s (p old_actor) = is ∙ done-by q s a p old_actor some there in
    record {
      after = with_step_spent acted.after;
      accepted = ap (λ d. d.outcome) same ∙ acted.accepted;
      stands = subst (λ d. StandsForState g new (with_step_spent acted.after) d.store) (sym same)
          (settles acted.after acted.remembers acted.actors acted.steps acted.heard);
      others = λ b apart. ap (part_under (seat_of b)) acted.actors
          ∙ part_under-left (is_interruption answer) a b actor q.actors apart;
    }

pub refuses-declined : (g : Ground) (t : ℕ) (a : Actor) (q : TenantState) (s : Store)
    (p : ActorData → Plan) (deed : DeedResult) (old_actor : ActorData) (m : Remembered) (why : Refusal)
    (new : Tenant)
    → deed ≡ by_actor s q a p → 0 < q.steps → part_under (seat_of a) q.actors ≡ Some old_actor
    → RefusesOutcome g t q (carried_out s (p old_actor)).outcome m why
    → (Remembers g t m q → StandsForState g new q s) → RefusesDeed g q s deed new why
refuses-declined g t a q s p deed old_actor m why new is some there declined stands = record {
  refused = λ ne. ap (λ d. d.outcome) (is ∙ done-by q s a p old_actor some there)
      ∙ declined.refused ne;
  stands = stands declined.remembers;
}

-- where the rules accept an actor's step, they accept the tenant's deed
pub accepts-by : (q : TenantState) (s : Store) (a : Actor) (p : ActorData → Plan) (deed : DeedResult)
    (actor : ActorData) → deed ≡ by_actor s q a p → 0 < q.steps
    → part_under (seat_of a) q.actors ≡ Some actor
    → is_accepted (carried_out s (p actor)).outcome ≡ true → is_accepted deed.outcome ≡ true
accepts-by q s a p deed actor is some there accepted =
    ap (λ d. is_accepted d.outcome) (is ∙ done-by q s a p actor some there) ∙ accepted

pub refuses-so : {X : Type 0} (g : Ground) (q : TenantState) (s : Store) (deed : DeedResult) (new : Tenant)
    (why : Refusal) (r : Result X Refusal) → IsErrAnd r (λ e. e ≡ why)
    → RefusesDeed g q s deed new why → IfErr r (RefusesDeed g q s deed new)
refuses-so g q s deed new why (Ok x) never told = tt
refuses-so g q s deed new why (Err e) is told =
    subst (RefusesDeed g q s deed new) (sym is) told

pub stands-seen : (g : Ground) (q : TenantState) (s : Store) (old new : Tenant)
    → new.retries ≡ old.retries → new.steps ≡ old.steps → new.decoder ≡ old.decoder
    → actors_view new.actors ≡ actors_view old.actors → new.memory ≡ old.memory
    → new.attempts ≡ old.attempts → StandsForState g old q s → StandsForState g new q s
stands-seen g q s old new tries steps same put kept tried st =
    let E : Decoder → Type 0 = λ d.
    decoder.DecoderStands message_limit d q.heard (g.readings.stream q.heard).messages in
    let A : Attempts → Type 0 = λ x. Reaches x s in
    record {
      retries = tries ∙ st.retries;
      steps = steps ∙ st.steps;
      stream = subst E (sym same) st.stream;
      actors = put ∙ st.actors;
      remembers = subst (λ m. Remembers g s.tenant m q) (sym kept) st.remembers;
      attempts = subst A (sym tried) st.attempts;
    }

pub stands-same : (g : Ground) (q : TenantState) (s : Store) (old new : Tenant)
    → new.retries ≡ old.retries → new.steps ≡ old.steps → new.decoder ≡ old.decoder
    → new.actors ≡ old.actors → new.memory ≡ old.memory → new.attempts ≡ old.attempts
    → StandsForState g old q s → StandsForState g new q s
stands-same g q s old new tries steps same put kept tried st =
    stands-seen g q s old new tries steps same (ap actors_view put) kept tried st

-- an actor whose state is not lent makes no step
pub refuses-unlent : (g : Ground) (q : TenantState) (s : Store) (a : Actor) (p : ActorData → Plan)
    (deed : DeedResult) (old new : Tenant) (why : Refusal) → deed ≡ by_actor s q a p
    → RefusesIdle a p → StandsForState g old q s
    → new.retries ≡ old.retries → new.steps ≡ old.steps → new.decoder ≡ old.decoder
    → new.memory ≡ old.memory → new.attempts ≡ old.attempts
    → actors_view new.actors ≡ actors_view old.actors
    → unlent a (old.steps == 0) (part_under (seat_of a) (actors_view old.actors)) ≡ Some why
    → RefusesDeed g q s deed new why
refuses-unlent g q s a p deed old new why is idle st tries steps same kept tried put h = record {
  refused = λ ne. ap (λ d. d.outcome) is ∙ refused-by g q s a p old why st idle h;
  stands = stands-seen g q s old new tries steps same put kept tried st;
}

-- and something else holds
pub refuses-with : {X : Type 0} (g : Ground) (q : TenantState) (s : Store) (deed : DeedResult) (new : Tenant)
    (why : Refusal) (P : Type 0) (r : Result X Refusal) → IsErrAnd r (λ e. e ≡ why)
    → RefusesDeed g q s deed new why → P → IfErr r (λ e. RefusesDeed g q s deed new e × P)
refuses-with g q s deed new why P (Ok x) never told p = tt
refuses-with g q s deed new why P (Err e) is told p =
    (subst (RefusesDeed g q s deed new) (sym is) told, p)
