-- What `ask` promises, for every tenant for which the code stands before, and all refs that the
-- table serves.
use Rattle.std.specs.Prelude.{◌≡◌, ◌≢◌, true, [], ◌∷◌, Option, Some, None, Result, Err, IfOk, IfErr}
use Rattle.std.specs.Prelude.{OnOk, OnErr, MatchOption, is_some}
use Rattle.repl_asks.specs.Exchange.{AskData}
use Rattle.repl_replies.specs.Replies.{OriginData, interrupted}
use Rattle.ref_table.specs.Calls.{performed}
use Rattle.ref_table.specs.Performed.{Performed}
use Rattle.ref_table.specs.Refs.{TableRefs, refs_after}
use Rattle.server_rules.specs.Asking.{asked_of, call_of, is_allowed}
use Rattle.server_rules.specs.Cells.{SenderData}
use Rattle.server_rules.specs.DeedResult.{DeedResult, carried_out}
use Rattle.server_rules.specs.Ground.{Ground}
use Rattle.server_rules.specs.Plan.{StepAnswer}
use Rattle.server_rules.specs.Replying.{reply}
use Rattle.server_rules.specs.Request.{WorkInHand, Run}
use Rattle.ref_table.specs.Store.{Store, left_attempt}
use Rattle.server_rules.specs.Tenant.{ActorData, TenantState, seat_of, with_replies}
use Rattle.server_rules.specs.declared.actor.Actor.{Actor}
use Rattle.server_rules.specs.declared.refusal.Refusal.{Refusal}
use Rattle.tenant_parts.specs.AnswerCopies.{copies_view}
use Rattle.tenant_parts.specs.Serving.{RingRefTable, ServesWithAttempts}
use Rattle.tenant_parts.specs.declared.attempts.Attempts.{Attempts}
use Rattle.tenant_asks.specs.Acting.{AcceptsOutcome, RefusesOutcome, IsActorStep, is_accepted}
use Rattle.tenant_asks.specs.Answers.{ask_answer_view}
use Rattle.tenant_asks.specs.Asking.{Answers, answered_plan}
use Rattle.tenant_asks.specs.Memories.{Remembers}
use Rattle.tenant_parts.specs.declared.copies.AnswerCopies.{AnswerCopies}
use Rattle.tenant_asks.specs.declared.answers.AskAnswers.{AskAnswers}
use Rattle.tenant_asks.specs.declared.memory.Remembered.{Remembered}

-- what an ask meets: what the tenant remembers, the refs of all and its attempts at them, and the
-- state of the actor that asks
pub record Site : Type 0 where
  pub memory : Remembered
  pub table : RingRefTable
  pub attempts : Attempts
  pub state : ActorData

abbrev pub site : Remembered → RingRefTable → Attempts → ActorData → Site
site memory table attempts state =
    record { memory = memory; table = table; attempts = attempts; state = state }

-- what the rules make of the ask
abbrev pub asked_result : Ground → Actor → ActorData → AskData → TenantState → Store → DeedResult
asked_result g a state ask q s = carried_out s (asked_of g a state ask q state.hand)

-- where the call succeeds, the ask is accepted, and this is its answer
abbrev pub AcceptsAsk : {A : Type 0} → Actor → AskData → Site → Site → Result A Refusal
    → (A → StepAnswer) → Type 0
AcceptsAsk a ask old new result answer = (g : Ground) (q : TenantState) (s : Store) (r : TableRefs)
    → Remembers g s.tenant old.memory q → ServesWithAttempts old.table old.attempts s r
    → let d = asked_result g a old.state ask q s in IfOk result (λ x.
    AcceptsOutcome g s.tenant a q d.outcome new.memory new.state (answer x)
    × ServesWithAttempts new.table new.attempts d.store (refs_after d.store r))

-- where it fails, the ask is refused so, unless for want of memory, and nothing has changed
abbrev pub RefusesAsk : {A : Type 0} → Actor → AskData → Site → Site → Result A Refusal
    → Type 0
RefusesAsk a ask old new result = (g : Ground) (q : TenantState) (s : Store) (r : TableRefs)
    → Remembers g s.tenant old.memory q → ServesWithAttempts old.table old.attempts s r
    → let d = asked_result g a old.state ask q s in IfErr result (λ why.
    RefusesOutcome g s.tenant q d.outcome new.memory why
    × ServesWithAttempts new.table new.attempts s r)

-- memory is refused only where the ask is accepted
abbrev pub LacksMemoryForAsk : {A : Type 0} → Actor → AskData → Site → Result A Refusal → Type 0
LacksMemoryForAsk a ask old result = (g : Ground) (q : TenantState) (s : Store) (r : TableRefs)
    → Remembers g s.tenant old.memory q → ServesWithAttempts old.table old.attempts s r
    → result ≡ Err Refusal.NoMemory
    → is_accepted (asked_result g a old.state ask q s).outcome ≡ true

-- what is promised of an ask
pub record ServesAsk {A : Type 0} (a : Actor) (ask : AskData) (old new : Site)
    (result : Result A Refusal) (answer : A → StepAnswer)
    : Type 0 where
  pub acted : AcceptsAsk a ask old new result answer
  pub declined : RefusesAsk a ask old new result
  pub no_memory : LacksMemoryForAsk a ask old result
  pub step : IsActorStep old.memory new.memory old.state new.state result

-- what the rules make of an ask that is allowed and has not to wait
abbrev pub answered_result : Ground → Actor → ActorData → WorkInHand → Run → AskData → TenantState
    → Store → DeedResult
answered_result g a state h run ask q s = carried_out s (answered_plan g a state h run ask q)

-- the same three of such an ask
abbrev pub AcceptsAnswer : Actor → AskData → Site → Site → Result AskAnswers Refusal → Type 0
AcceptsAnswer a ask old new result =
    (g : Ground) (q : TenantState) (s : Store) (r : TableRefs) (h : WorkInHand) (run : Run)
    → Remembers g s.tenant old.memory q → ServesWithAttempts old.table old.attempts s r
    → is_allowed ask q.cells ≡ true → old.state.hand ≡ Some h → h.running ≡ Some run
    → let d = answered_result g a old.state h run ask q s in IfOk result (λ x.
    AcceptsOutcome g s.tenant a q d.outcome new.memory new.state (ask_answer_view x.given)
    × ServesWithAttempts new.table new.attempts d.store (refs_after d.store r))

abbrev pub RefusesAnswer : Actor → AskData → Site → Site → Result AskAnswers Refusal → Type 0
RefusesAnswer a ask old new result =
    (g : Ground) (q : TenantState) (s : Store) (r : TableRefs) (h : WorkInHand) (run : Run)
    → Remembers g s.tenant old.memory q → ServesWithAttempts old.table old.attempts s r
    → is_allowed ask q.cells ≡ true
    → let d = answered_result g a old.state h run ask q s in IfErr result (λ why.
    RefusesOutcome g s.tenant q d.outcome new.memory why
    × ServesWithAttempts new.table new.attempts s r)

abbrev pub LacksMemoryForAnswer : Actor → AskData → Site → Result AskAnswers Refusal → Type 0
LacksMemoryForAnswer a ask old result =
    (g : Ground) (q : TenantState) (s : Store) (r : TableRefs) (h : WorkInHand) (run : Run)
    → Remembers g s.tenant old.memory q → ServesWithAttempts old.table old.attempts s r
    → result ≡ Err Refusal.NoMemory
    → is_accepted (answered_result g a old.state h run ask q s).outcome ≡ true

-- what an ask is answered from, whoever asks: a site without the actor's state
pub record Holdings : Type 0 where
  pub memory : Remembered
  pub table : RingRefTable
  pub attempts : Attempts

abbrev pub holdings : Remembered → RingRefTable → Attempts → Holdings
holdings memory table attempts = record { memory = memory; table = table; attempts = attempts }

-- what the refs tell of an ask of an actor
abbrev pub performed_ask : Actor → AskData → Store → Performed Store
performed_ask a ask s = performed s (call_of (seat_of a) ask)

-- something is told: its request is answered that it is interrupted, and its attempt is left
abbrev pub GivesUp : {A E : Type 0} → Actor → AskData → OriginData → Holdings → Holdings
    → Result A E → Type 0
GivesUp a ask origin old new result = (g : Ground) (q : TenantState) (s : Store) (r : TableRefs)
    → Remembers g s.tenant old.memory q → ServesWithAttempts old.table old.attempts s r
    → OnOk result ((is_some (performed_ask a ask s).told ≡ true)
    × Remembers g s.tenant new.memory
    (with_replies (reply origin interrupted ∷ []) q)
    × ServesWithAttempts new.table new.attempts (left_attempt (seat_of a) s)
    (refs_after (left_attempt (seat_of a) s) r))

-- where it fails, nothing is told unless memory was refused, and all is as it was
abbrev pub StaysUntold : {A : Type 0} → Actor → AskData → Holdings → Holdings → Result A Refusal
    → Type 0
StaysUntold a ask old new result = (g : Ground) (q : TenantState) (s : Store) (r : TableRefs)
    → Remembers g s.tenant old.memory q → ServesWithAttempts old.table old.attempts s r
    → IfErr result (λ why. (why ≢ Refusal.NoMemory → (why ≡ Refusal.Idle)
    × ((performed_ask a ask s).told ≡ None))
    × Remembers g s.tenant new.memory q × ServesWithAttempts new.table new.attempts s r)

-- where it succeeds: this is the answer, if anything is told, and else all is as it was
abbrev pub AnswersIfTold : {E : Type 0} → Actor → SenderData → AskData → Holdings → Holdings
    → Result (Option AnswerCopies) E → Type 0
AnswersIfTold a sender ask old new result = (g : Ground) (q : TenantState) (s : Store) (r : TableRefs)
    → Remembers g s.tenant old.memory q → ServesWithAttempts old.table old.attempts s r
    → is_allowed ask q.cells ≡ true → let p = performed_ask a ask s in
    IfOk result (λ it. MatchOption it ((p.told ≡ None)
    × Remembers g s.tenant new.memory q × ServesWithAttempts new.table new.attempts s r)
    (λ answer. Answers g s.tenant a sender q ask p new.memory new.table new.attempts r
    (copies_view answer)))

-- where it fails, all is as it was
abbrev pub HoldsStill : {A E : Type 0} → Holdings → Holdings → Result A E → Type 0
HoldsStill old new result = (g : Ground) (q : TenantState) (s : Store) (r : TableRefs)
    → Remembers g s.tenant old.memory q → ServesWithAttempts old.table old.attempts s r
    → OnErr result (Remembers g s.tenant new.memory q
    × ServesWithAttempts new.table new.attempts s r)
