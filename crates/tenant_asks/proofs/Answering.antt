-- What a form asks, beside the rules' step.
use Rattle.std.proofs.Common.{◌≡◌, ◌^◌, ◌==◌, ◌&&◌, ℕ, Bool, true, false, Option, None, Some, refl, sym, ap}
use Rattle.std.proofs.Common.{◌∙◌, option_map, true≢false, if◌then◌else◌, is_some, nat_lt, ◌≢◌}
use Rattle.std.proofs.Common.{Result, Ok, Err, IfErr, []}
use Rattle.std.specs.Result.{IsErrAnd}
use Rattle.std.proofs.lemmas.Bool.{and_parts, ltb-true}
use Rattle.repl_asks.specs.Exchange as exchange
use Rattle.repl_asks.specs.Exchange.{AskData, AnswerData}
use Rattle.ref_table.specs.Calls.{StoreCall, nothing, inside, gives_up, performed, given_up, told_inside}
use Rattle.ref_table.specs.Calls.{told_outside}
use Rattle.server_rules.specs.Ground.{Ground}
use Rattle.server_rules.specs.Request.{WorkInHand, Run}
use Rattle.ref_table.specs.Store.{Store, left_attempt}
use Rattle.server_rules.specs.Tenant.{ActorData, TenantState, seat_of}
use Rattle.ref_table.specs.Numbered as numbered
use Rattle.ref_table.specs.Numbered.{with_part}
use Rattle.ref_table.specs.Performed.{as_was, tells}
use Rattle.server_rules.specs.Asking.{asked_of, asked_running, asked_allowed, ask_outcome, may_ask}
use Rattle.server_rules.specs.Asking.{session_number, may_send_call}
use Rattle.server_rules.specs.Asking.{answer_to, spaces_after, state_after}
use Rattle.server_rules.specs.Asking.{with_recorded_answer, call_of, sender_of}
use Rattle.server_rules.specs.Asking.{is_allowed, when_told}
use Rattle.server_rules.specs.Cells.{CellsData, cell_answer, SenderData, is_yes, with_sends_if}
use Rattle.server_rules.specs.Cells.{cells_after, must_wait}
use Rattle.server_rules.specs.Starting.{interrupted_in}
use Rattle.server_rules.specs.Plan.{Plan, refuses, leaves, with_step_spent, ask_answered, quietly}
use Rattle.server_rules.specs.declared.actor.Actor.{Actor}
use Rattle.server_rules.specs.declared.refusal.Refusal.{Refusal}
use Rattle.server_rules.specs.DeedResult.{carried_out}
use Rattle.tenant_asks.specs.declared.memory.Remembered.{Remembered}
use Rattle.tenant_asks.specs.Memories.{Remembers}
use Rattle.tenant_asks.specs.Acting.{AcceptsOutcome, RefusesOutcome, is_accepted}
use Rattle.tenant_asks.specs.Asking.{is_of_names, is_of_cells, answered_plan, exchange_from, run_with}
use Rattle.tenant_asks.specs.Asking.{hand_with, with_exchange, why_waiting}
use Rattle.tenant_asks.specs.Sends.{committed_sends}
use Rattle.tenant_parts.proofs.Soundness.{MayBe}

-- Asks of names, of atoms and agents, and of refs

pub names-nothing : (seat : ℕ) (ask : AskData) → is_of_names ask ≡ true → call_of seat ask ≡ nothing
names-nothing seat (exchange.resolve namespace symbol) names = refl
names-nothing seat (exchange.define namespace name binding) names = refl
names-nothing seat (exchange.enter name) names = refl
names-nothing seat (exchange.new_ref d least most) names = absurd (true≢false (sym names))
names-nothing seat exchange.begin names = absurd (true≢false (sym names))
names-nothing seat (exchange.read name) names = absurd (true≢false (sym names))
names-nothing seat (exchange.history name) names = absurd (true≢false (sym names))
names-nothing seat (exchange.min_history name set) names = absurd (true≢false (sym names))
names-nothing seat (exchange.max_history name set) names = absurd (true≢false (sym names))
names-nothing seat (exchange.commit intent) names = absurd (true≢false (sym names))
names-nothing seat (exchange.new_atom d) names = absurd (true≢false (sym names))
names-nothing seat (exchange.read_atom n) names = absurd (true≢false (sym names))
names-nothing seat (exchange.set_atom n d) names = absurd (true≢false (sym names))
names-nothing seat (exchange.try_atom n seen next) names = absurd (true≢false (sym names))
names-nothing seat (exchange.new_agent d) names = absurd (true≢false (sym names))
names-nothing seat (exchange.read_agent n) names = absurd (true≢false (sym names))
names-nothing seat (exchange.agent_fault n) names = absurd (true≢false (sym names))
names-nothing seat (exchange.restart_agent n d) names = absurd (true≢false (sym names))
names-nothing seat (exchange.send s) names = absurd (true≢false (sym names))
names-nothing seat (exchange.may_send s) names = absurd (true≢false (sym names))
names-nothing seat (exchange.await ns) names = absurd (true≢false (sym names))

stands-outside : (s : Store) (found : Option ℕ) → is_some (told_outside found) ≡ true
    → as_was s (told_outside found) ≡ tells exchange.done s
stands-outside s None told = refl
stands-outside s (Some point) told = absurd (true≢false (sym told))

stands-inside : (s : Store) (found : Option ℕ) → is_some (told_inside found) ≡ true
    → as_was s (told_inside found) ≡ tells exchange.done s
stands-inside s None told = absurd (true≢false (sym told))
stands-inside s (Some point) told = refl

sends-told : (seat : ℕ) (s : Store) → is_some (performed s (may_send_call seat)).told ≡ true
    → performed s (may_send_call seat) ≡ tells exchange.done s
sends-told seat s told = by (seat == 0) told where
  call_by : Bool → StoreCall
  call_by b = if b then nothing else inside seat

  by : (b : Bool) → is_some (performed s (call_by b)).told ≡ true
      → performed s (call_by b) ≡ tells exchange.done s
  by true told = refl
  by false told = stands-inside s (numbered.part_under seat s.mine.points) told

-- of atoms and agents the refs tell no more than that the ask may stand where it does
pub cells-told : (seat : ℕ) (ask : AskData) (s : Store) → is_of_cells ask ≡ true
    → is_some (performed s (call_of seat ask)).told ≡ true
    → performed s (call_of seat ask) ≡ tells exchange.done s
cells-told seat (exchange.new_atom d) s cells told = refl
cells-told seat (exchange.read_atom n) s cells told = refl
cells-told seat (exchange.set_atom n d) s cells told = refl
cells-told seat (exchange.try_atom n seen next) s cells told = refl
cells-told seat (exchange.new_agent d) s cells told = refl
cells-told seat (exchange.read_agent n) s cells told = refl
cells-told seat (exchange.agent_fault n) s cells told = refl
cells-told seat (exchange.restart_agent n d) s cells told = refl
cells-told seat (exchange.send x) s cells told =
    stands-outside s (numbered.part_under seat s.mine.points) told
cells-told seat (exchange.may_send x) s cells told = sends-told seat s told
cells-told seat (exchange.await ns) s cells told =
    stands-outside s (numbered.part_under seat s.mine.points) told
cells-told seat _ s cells told = absurd (true≢false (sym cells))

-- no namespace changes with an atom or an agent
pub cells-spaces : (ask : AskData) (q : TenantState) → is_of_cells ask ≡ true
    → q.spaces ≡ spaces_after ask q.spaces
cells-spaces (exchange.new_atom d) q cells = refl
cells-spaces (exchange.read_atom n) q cells = refl
cells-spaces (exchange.set_atom n d) q cells = refl
cells-spaces (exchange.try_atom n seen next) q cells = refl
cells-spaces (exchange.new_agent d) q cells = refl
cells-spaces (exchange.read_agent n) q cells = refl
cells-spaces (exchange.agent_fault n) q cells = refl
cells-spaces (exchange.restart_agent n d) q cells = refl
cells-spaces (exchange.send s) q cells = refl
cells-spaces (exchange.may_send s) q cells = refl
cells-spaces (exchange.await ns) q cells = refl
cells-spaces _ q cells = absurd (true≢false (sym cells))

pub cells-answer : (g : Ground) (a : Actor) (q : TenantState) (ask : AskData) (c : CellsData)
    (told : AnswerData) → is_of_cells ask ≡ true → c ≡ q.cells
    → cell_answer ask c told ≡ answer_to g a q ask told
cells-answer g a q (exchange.new_atom d) c told cells same =
    ap (λ x. cell_answer (exchange.new_atom d) x told) same
cells-answer g a q (exchange.read_atom n) c told cells same =
    ap (λ x. cell_answer (exchange.read_atom n) x told) same
cells-answer g a q (exchange.set_atom n d) c told cells same = refl
cells-answer g a q (exchange.try_atom n seen next) c told cells same =
    ap (λ x. cell_answer (exchange.try_atom n seen next) x told) same
cells-answer g a q (exchange.new_agent d) c told cells same =
    ap (λ x. cell_answer (exchange.new_agent d) x told) same
cells-answer g a q (exchange.read_agent n) c told cells same =
    ap (λ x. cell_answer (exchange.read_agent n) x told) same
cells-answer g a q (exchange.agent_fault n) c told cells same =
    ap (λ x. cell_answer (exchange.agent_fault n) x told) same
cells-answer g a q (exchange.restart_agent n d) c told cells same =
    ap (λ x. cell_answer (exchange.restart_agent n d) x told) same
cells-answer g a q (exchange.send s) c told cells same =
    ap (λ x. cell_answer (exchange.send s) x told) same
cells-answer g a q (exchange.may_send s) c told cells same =
    ap (λ x. cell_answer (exchange.may_send s) x told) same
cells-answer g a q (exchange.await ns) c told cells same =
    ap (λ x. cell_answer (exchange.await ns) x told) same
cells-answer g a q _ c told cells same = absurd (true≢false (sym cells))

-- of refs the answer is what they told, no namespace changes, and a commit sends
pub record AreRefs (g : Ground) (a : Actor) (sender : SenderData) (q : TenantState) (ask : AskData)
    (told : AnswerData) : Type 0 where
  pub is : told ≡ answer_to g a q ask told
  pub spaces : q.spaces ≡ spaces_after ask q.spaces
  pub cells : with_sends_if (is_yes told) sender (committed_sends ask) q.cells
      ≡ cells_after sender ask told q.cells

nothing-sent : (b : Bool) (sender : SenderData) (c : CellsData) → with_sends_if b sender [] c ≡ c
nothing-sent true sender c = refl
nothing-sent false sender c = refl

pub refs-told : (g : Ground) (a : Actor) (sender : SenderData) (q : TenantState) (ask : AskData)
    (told : AnswerData) → is_of_names ask ≡ false → is_of_cells ask ≡ false
    → AreRefs g a sender q ask told
refs-told g a sender q (exchange.resolve namespace symbol) told names cells = absurd (true≢false names)
refs-told g a sender q (exchange.define namespace name binding) told names cells =
    absurd (true≢false names)
refs-told g a sender q (exchange.enter name) told names cells = absurd (true≢false names)
refs-told g a sender q (exchange.new_atom d) told names cells = absurd (true≢false cells)
refs-told g a sender q (exchange.read_atom n) told names cells = absurd (true≢false cells)
refs-told g a sender q (exchange.set_atom n d) told names cells = absurd (true≢false cells)
refs-told g a sender q (exchange.try_atom n seen next) told names cells = absurd (true≢false cells)
refs-told g a sender q (exchange.new_agent d) told names cells = absurd (true≢false cells)
refs-told g a sender q (exchange.read_agent n) told names cells = absurd (true≢false cells)
refs-told g a sender q (exchange.agent_fault n) told names cells = absurd (true≢false cells)
refs-told g a sender q (exchange.restart_agent n d) told names cells = absurd (true≢false cells)
refs-told g a sender q (exchange.new_ref d least most) told names cells =
    record { is = refl; spaces = refl; cells = nothing-sent (is_yes told) sender q.cells }
refs-told g a sender q exchange.begin told names cells =
    record { is = refl; spaces = refl; cells = nothing-sent (is_yes told) sender q.cells }
refs-told g a sender q (exchange.read name) told names cells =
    record { is = refl; spaces = refl; cells = nothing-sent (is_yes told) sender q.cells }
refs-told g a sender q (exchange.history name) told names cells =
    record { is = refl; spaces = refl; cells = nothing-sent (is_yes told) sender q.cells }
refs-told g a sender q (exchange.min_history name set) told names cells =
    record { is = refl; spaces = refl; cells = nothing-sent (is_yes told) sender q.cells }
refs-told g a sender q (exchange.max_history name set) told names cells =
    record { is = refl; spaces = refl; cells = nothing-sent (is_yes told) sender q.cells }
refs-told g a sender q (exchange.commit intent) told names cells =
    record { is = refl; spaces = refl; cells = refl }
refs-told g a sender q (exchange.send s) told names cells = absurd (true≢false cells)
refs-told g a sender q (exchange.may_send s) told names cells = absurd (true≢false cells)
refs-told g a sender q (exchange.await ns) told names cells = absurd (true≢false cells)

-- the bounds of what is allowed are numbers of the language
pub allowed-may : (seat : ℕ) (ask : AskData) (q : TenantState) → is_allowed ask q.cells ≡ true
    → MayBe (call_of seat ask)
allowed-may seat (exchange.resolve namespace symbol) q allowed = tt
allowed-may seat (exchange.define namespace name binding) q allowed = tt
allowed-may seat (exchange.enter name) q allowed = tt
allowed-may seat (exchange.new_ref d least most) q allowed =
    let both = and_parts (nat_lt least (2 ^ 63)) (nat_lt most (2 ^ 63)) allowed in
    (ltb-true least (2 ^ 63) both.0, ltb-true most (2 ^ 63) both.1)
allowed-may seat exchange.begin q allowed = tt
allowed-may seat (exchange.read name) q allowed = tt
allowed-may seat (exchange.history name) q allowed = tt
allowed-may seat (exchange.min_history name None) q allowed = tt
allowed-may seat (exchange.min_history name (Some n)) q allowed = ltb-true n (2 ^ 63) allowed
allowed-may seat (exchange.max_history name None) q allowed = tt
allowed-may seat (exchange.max_history name (Some n)) q allowed = ltb-true n (2 ^ 63) allowed
allowed-may seat (exchange.commit intent) q allowed = tt
allowed-may seat (exchange.new_atom d) q allowed = tt
allowed-may seat (exchange.read_atom n) q allowed = tt
allowed-may seat (exchange.set_atom n d) q allowed = tt
allowed-may seat (exchange.try_atom n seen next) q allowed = tt
allowed-may seat (exchange.new_agent d) q allowed = tt
allowed-may seat (exchange.read_agent n) q allowed = tt
allowed-may seat (exchange.agent_fault n) q allowed = tt
allowed-may seat (exchange.restart_agent n d) q allowed = tt
allowed-may seat (exchange.send s) q allowed = tt
allowed-may seat (exchange.may_send s) q allowed = by (seat == 0) where
  by : (b : Bool) → MayBe (if b then nothing else inside seat)
  by true = tt
  by false = tt
allowed-may seat (exchange.await ns) q allowed = tt

-- what the code says of an ask, where it remembers these atoms and agents
pub allowed-so : {b v : Bool} (ask : AskData) {c d : CellsData} → c ≡ d → b ≡ is_allowed ask c → b ≡ v
    → is_allowed ask d ≡ v
allowed-so ask same says is = sym (ap (is_allowed ask) same) ∙ sym says ∙ is

-- An answer that is kept

pub acted-ask_outcome : (g : Ground) (t : ℕ) (m : Remembered) (a : Actor) (actor new : ActorData) (h : WorkInHand)
    (run : Run) (ask : AskData) (q : TenantState) (told kept given : AnswerData)
    → actor.hand ≡ Some h → h.running ≡ Some run
    → new ≡ with_exchange (exchange_from ask kept) actor → kept ≡ answer_to g a q ask told
    → given ≡ kept → Remembers g t m (state_after (sender_of a h) ask kept q)
    → AcceptsOutcome g t a q (ask_outcome g a actor h run ask q told) m new (ask_answered given)
acted-ask_outcome g t m a actor new h run ask q told kept given hand running put is same r =
    let answer = answer_to g a q ask told in
    let later = state_after (sender_of a h) ask answer q in
    let after = with_recorded_answer a actor h run ask answer later in
    record {
      after = after;
      accepted = ap (λ x. leaves (with_step_spent after) (ask_answered x)) (sym (same ∙ is));
      remembers = record {
        sessions = r.sessions;
        bare = r.bare;
        spaces = r.spaces;
        names = r.names;
        cells = r.cells ∙ ap (λ x. cells_after (sender_of a h) ask x q.cells) is;
        replies = r.replies;
      };
      actors = ap (λ x. with_part (seat_of a) x q.actors) (sym (put
          ∙ ap (λ x. with_exchange (exchange_from ask x) actor) is
          ∙ ap (λ x. record actor { hand = option_map (hand_with (exchange_from ask answer)) x }) hand
          ∙ ap (λ x. record actor {
            hand =
                Some (record h { running = option_map (run_with (exchange_from ask answer)) x });
          }) running));
      steps = refl;
      heard = refl;
    }

-- The plan of an ask of a form that runs

abbrev pub allowed_by : Ground → Actor → ActorData → WorkInHand → Run → AskData → TenantState → Bool → Plan
allowed_by g a actor h run ask q b =
    if b then asked_allowed g a actor h run ask q else quietly (refuses Refusal.Idle)

asked-by : (g : Ground) (a : Actor) (actor : ActorData) (ask : AskData) (q : TenantState) (h : WorkInHand)
    (run : Run) (b : Bool) → actor.hand ≡ Some h → h.running ≡ Some run
    → (may_ask a ask && is_allowed ask q.cells) ≡ b
    → asked_of g a actor ask q actor.hand ≡ allowed_by g a actor h run ask q b
asked-by g a actor ask q h run b hand running is =
    ap (asked_of g a actor ask q) hand
    ∙ ap (asked_running g a actor h ask q) running
    ∙ ap (allowed_by g a actor h run ask q) is

both-so : (b c : Bool) → b ≡ true → c ≡ true → (b && c) ≡ true
both-so true c b-is c-is = c-is
both-so false c b-is c-is = absurd (true≢false (sym b-is))

second-not : (b c : Bool) → c ≡ false → (b && c) ≡ false
second-not true c is = is
second-not false c is = refl

first-not : (b c : Bool) → b ≡ false → (b && c) ≡ false
first-not true c is = absurd (true≢false is)
first-not false c is = refl

pub runs-so : (g : Ground) (a : Actor) (actor : ActorData) (ask : AskData) (q : TenantState) (h : WorkInHand)
    (run : Run) → actor.hand ≡ Some h → h.running ≡ Some run → may_ask a ask ≡ true
    → is_allowed ask q.cells ≡ true
    → asked_of g a actor ask q actor.hand ≡ asked_allowed g a actor h run ask q
runs-so g a actor ask q h run hand running may allowed =
    asked-by g a actor ask q h run true hand running
    (both-so (may_ask a ask) (is_allowed ask q.cells) may allowed)

pub asked-forbidden : (g : Ground) (a : Actor) (actor : ActorData) (ask : AskData) (q : TenantState)
    (h : WorkInHand) (run : Run) → actor.hand ≡ Some h → h.running ≡ Some run
    → is_allowed ask q.cells ≡ false
    → asked_of g a actor ask q actor.hand ≡ quietly (refuses Refusal.Idle)
asked-forbidden g a actor ask q h run hand running forbidden =
    asked-by g a actor ask q h run false hand running
    (second-not (may_ask a ask) (is_allowed ask q.cells) forbidden)

pub asked-unfit : (g : Ground) (a : Actor) (actor : ActorData) (ask : AskData) (q : TenantState)
    (h : WorkInHand) (run : Run) → actor.hand ≡ Some h → h.running ≡ Some run → may_ask a ask ≡ false
    → asked_of g a actor ask q actor.hand ≡ quietly (refuses Refusal.Idle)
asked-unfit g a actor ask q h run hand running unfit =
    asked-by g a actor ask q h run false hand running
    (first-not (may_ask a ask) (is_allowed ask q.cells) unfit)

-- of a session that was closed
abbrev pub given_up_plan : Actor → WorkInHand → AskData → TenantState → Plan
given_up_plan a h ask q = record {
  call = gives_up (seat_of a) (call_of (seat_of a) ask);
  next = λ told. when_told told (λ _. interrupted_in a h q);
}

-- of one that is open
abbrev pub open_plan : Ground → Actor → ActorData → WorkInHand → Run → AskData → TenantState → Bool → Plan
open_plan g a actor h run ask q waits = record {
  call = call_of (seat_of a) ask;
  next = λ told. when_told told
      (λ t. if waits then refuses Refusal.Waiting else ask_outcome g a actor h run ask q t);
}

open-so : (g : Ground) (a : Actor) (actor : ActorData) (ask : AskData) (q : TenantState) (h : WorkInHand)
    (run : Run) (waits : Bool) → actor.hand ≡ Some h → h.running ≡ Some run
    → may_ask a ask ≡ true → is_allowed ask q.cells ≡ true → actor.is_closed ≡ false
    → must_wait (session_number a) ask q.cells ≡ waits
    → open_plan g a actor h run ask q waits ≡ asked_of g a actor ask q actor.hand
open-so g a actor ask q h run waits hand running may allowed open_still is = sym (
    runs-so g a actor ask q h run hand running may allowed
    ∙ ap (λ (b : Bool). if b then given_up_plan a h ask q
    else open_plan g a actor h run ask q (must_wait (session_number a) ask q.cells)) open_still
    ∙ ap (open_plan g a actor h run ask q) is)

pub asked-open : (g : Ground) (a : Actor) (actor : ActorData) (ask : AskData) (q : TenantState) (h : WorkInHand)
    (run : Run) → actor.hand ≡ Some h → h.running ≡ Some run → may_ask a ask ≡ true
    → is_allowed ask q.cells ≡ true → actor.is_closed ≡ false
    → must_wait (session_number a) ask q.cells ≡ false
    → answered_plan g a actor h run ask q ≡ asked_of g a actor ask q actor.hand
asked-open g a actor ask q h run hand running may allowed open_still met =
    open-so g a actor ask q h run false hand running may allowed open_still met

pub asked-waiting : (g : Ground) (s : Store) (a : Actor) (actor : ActorData) (ask : AskData)
    (q : TenantState) (h : WorkInHand) (run : Run) → actor.hand ≡ Some h → h.running ≡ Some run
    → may_ask a ask ≡ true → is_allowed ask q.cells ≡ true → actor.is_closed ≡ false
    → must_wait (session_number a) ask q.cells ≡ true
    → (carried_out s (asked_of g a actor ask q actor.hand)).outcome
    ≡ refuses (why_waiting (is_some (performed s (call_of (seat_of a) ask)).told))
asked-waiting g s a actor ask q h run hand running may allowed open_still waits =
    sym (ap (λ p. (carried_out s p).outcome)
    (open-so g a actor ask q h run true hand running may allowed open_still waits))
    ∙ by (performed s (call_of (seat_of a) ask)).told
  where
    by : (o : Option AnswerData)
        → when_told o (λ t. if true then refuses Refusal.Waiting else ask_outcome g a actor h run ask q t)
        ≡ refuses (why_waiting (is_some o))
    by None = refl
    by (Some told) = refl

pub asked-closed : (g : Ground) (a : Actor) (actor : ActorData) (ask : AskData) (q : TenantState) (h : WorkInHand)
    (run : Run) → actor.hand ≡ Some h → h.running ≡ Some run → may_ask a ask ≡ true
    → is_allowed ask q.cells ≡ true → actor.is_closed ≡ true
    → given_up_plan a h ask q ≡ asked_of g a actor ask q actor.hand
asked-closed g a actor ask q h run hand running may allowed closed = sym (
    runs-so g a actor ask q h run hand running may allowed
    ∙ ap (λ (b : Bool). if b then given_up_plan a h ask q
    else open_plan g a actor h run ask q (must_wait (session_number a) ask q.cells)) closed)

-- what the code says of an await, where it remembers these agents
pub waits-so : {b v : Bool} (session : Option ℕ) (ask : AskData) {c d : CellsData} → c ≡ d
    → b ≡ must_wait session ask c → b ≡ v → must_wait session ask d ≡ v
waits-so session ask same says is = sym (ap (must_wait session ask) same) ∙ sym says ∙ is

-- What giving up comes to

pub given-told : (s : Store) (a : Actor) (h : WorkInHand) (ask : AskData) (q : TenantState)
    → is_some (performed s (call_of (seat_of a) ask)).told ≡ true
    → ((carried_out s (given_up_plan a h ask q)).outcome ≡ interrupted_in a h q)
    × ((carried_out s (given_up_plan a h ask q)).store ≡ left_attempt (seat_of a) s)
given-told s a h ask q some = by (performed s (call_of (seat_of a) ask)).told some where
  by : (o : Option AnswerData) → is_some o ≡ true
      → (when_told (given_up (seat_of a) s o).told (λ _. interrupted_in a h q) ≡ interrupted_in a h q)
      × ((given_up (seat_of a) s o).store ≡ left_attempt (seat_of a) s)
  by None some = absurd (true≢false (sym some))
  by (Some answer) some = (refl, refl)

pub given-untold : (s : Store) (a : Actor) (h : WorkInHand) (ask : AskData) (q : TenantState)
    → (performed s (call_of (seat_of a) ask)).told ≡ None
    → (carried_out s (given_up_plan a h ask q)).outcome ≡ refuses Refusal.Idle
given-untold s a h ask q none =
    ap (λ o. when_told (given_up (seat_of a) s o).told (λ _. interrupted_in a h q)) none

-- what an answer that was told comes to
pub ask_outcome-told : (g : Ground) (s : Store) (a : Actor) (actor : ActorData) (h : WorkInHand) (run : Run)
    (ask : AskData) (q : TenantState) (told : AnswerData)
    → (performed s (call_of (seat_of a) ask)).told ≡ Some told
    → ask_outcome g a actor h run ask q told
    ≡ (carried_out s (answered_plan g a actor h run ask q)).outcome
ask_outcome-told g s a actor h run ask q told is =
    sym (ap (λ o. when_told o (ask_outcome g a actor h run ask q)) is)

pub answered-untold : (g : Ground) (s : Store) (a : Actor) (actor : ActorData) (h : WorkInHand) (run : Run)
    (ask : AskData) (q : TenantState) → (performed s (call_of (seat_of a) ask)).told ≡ None
    → (carried_out s (answered_plan g a actor h run ask q)).outcome ≡ refuses Refusal.Idle
answered-untold g s a actor h run ask q none =
    ap (λ o. when_told o (ask_outcome g a actor h run ask q)) none

-- where something is told, the rules accept the ask
pub answered-accepted : (g : Ground) (s : Store) (a : Actor) (actor : ActorData) (h : WorkInHand) (run : Run)
    (ask : AskData) (q : TenantState) → is_some (performed s (call_of (seat_of a) ask)).told ≡ true
    → is_accepted (carried_out s (answered_plan g a actor h run ask q)).outcome ≡ true
answered-accepted g s a actor h run ask q some =
    by (performed s (call_of (seat_of a) ask)).told some
  where
    by : (o : Option AnswerData) → is_some o ≡ true
        → is_accepted (when_told o (ask_outcome g a actor h run ask q)) ≡ true
    by None none = absurd (true≢false (sym none))
    by (Some told) some = refl

pub untold-so : {A : Type 0} (told : Option A) → false ≡ is_some told → told ≡ None
untold-so None is = refl
untold-so (Some answer) never = absurd (true≢false (sym never))

pub refused-so : {A : Type 0} (why so : Refusal)
    → ◌≡◌ {A = Result A Refusal} (Err why) (Err so) → why ≡ so
refused-so why so same = cc

pub held-so : (x y : WorkInHand) → ◌≡◌ {A = Option WorkInHand} (Some x) (Some y) → x ≡ y
held-so x y same = cc

-- an ask is refused so for which there was no memory
pub declined-without : (g : Ground) (s : Store) (a : Actor) (actor : ActorData) (h : WorkInHand) (run : Run)
    (ask : AskData) (q : TenantState) (m : Remembered) (why : Refusal)
    → (why ≢ Refusal.NoMemory → (why ≡ Refusal.Idle)
    × ((performed s (call_of (seat_of a) ask)).told ≡ None))
    → Remembers g s.tenant m q
    → RefusesOutcome g s.tenant q (carried_out s (answered_plan g a actor h run ask q)).outcome m why
declined-without g s a actor h run ask q m why idle remembers = record {
  refused = λ ne. let untold = idle ne in
      answered-untold g s a actor h run ask q untold.1 ∙ ap refuses (sym untold.0);
  remembers = remembers;
}

-- for want of memory nothing is said of the rules
pub stays-memory : {A : Type 0} (r : Result A Refusal) (T : Refusal → Type 0) (M H : Type 0)
    → IsErrAnd r (λ e. e ≡ Refusal.NoMemory) → M → H
    → IfErr r (λ why. (why ≢ Refusal.NoMemory → T why) × M × H)
stays-memory (Ok x) T M H never m h = tt
stays-memory (Err e) T M H is m h = ((λ ne. absurd (ne is)), m, h)

-- giving up is refused where nothing would be told
pub given-declined : {X : Type 0} (g : Ground) (t : ℕ) (s : Store) (a : Actor) (h : WorkInHand)
    (ask : AskData) (q : TenantState) (p : Plan) (m : Remembered) (why : Refusal) (H : Type 0)
    (r : Result X Refusal) → given_up_plan a h ask q ≡ p → IsErrAnd r (λ e. e ≡ why)
    → (why ≢ Refusal.NoMemory → (why ≡ Refusal.Idle)
    × ((performed s (call_of (seat_of a) ask)).told ≡ None))
    → Remembers g t m q → H
    → IfErr r (λ e. RefusesOutcome g t q (carried_out s p).outcome m e × H)
given-declined g t s a h ask q p m why H (Ok x) plan never told remembers holds = tt
given-declined g t s a h ask q p m why H (Err e) plan is told remembers holds = (
  record {
    refused = λ ne.
        let idle = told (λ none. ne (is ∙ none)) in
        ap (λ x. (carried_out s x).outcome) (sym plan)
        ∙ given-untold s a h ask q idle.1 ∙ ap refuses (sym (is ∙ idle.0));
    remembers = remembers;
  },
  holds,
)
