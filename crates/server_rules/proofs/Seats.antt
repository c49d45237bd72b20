-- The actors of a tenant stand in the order of their seats, whatever happens.
use Rattle.std.proofs.Common.{◌≡◌, ℕ, suc, ◌+◌, ◌==◌, List, [], ◌∷◌, ◌++◌, Bool, true, false}
use Rattle.std.proofs.Common.{if◌then◌else◌, ◌&&◌, Option, Some, None, refl, sym, subst, arith, inl, inr}
use Rattle.std.proofs.Common.{nat_le, is_some}
use Rattle.std.specs.Prelude.{⊤, Result, Ok, Err}
use Rattle.std.proofs.lemmas.Bool.{cases_eq}
use Rattle.bencode_wire.specs.Tree as wire
use Rattle.bencode_wire.specs.declared.fault.WireFault.{WireFault}
use Rattle.repl_asks.specs.Exchange.{AskData, AnswerData}
use Rattle.repl_asks.specs.Job.{EndingData}
use Rattle.repl_sessions.specs.State.{StateData}
use Rattle.repl_replies.specs.Replies.{OriginData, ReplyData}
use Rattle.repl_replies.specs.Operations as operations
use Rattle.repl_replies.specs.Operations.{AskedData, OperationData, operation_or_reply}
use Rattle.repl_sessions.specs.Named.{number_named}
use Rattle.ref_table.specs.Numbered.{Entry, entry, part_under, with_part}
use Rattle.ref_table.specs.Store.{Store}
use Rattle.ref_table.specs.Calls.{performed}
use Rattle.server_rules.specs.Ground.{Ground}
use Rattle.server_rules.specs.Request.{Waiting, ProgramText, code, file, WorkInHand, Run}
use Rattle.server_rules.specs.Tenant.{ActorData, unoccupied, seat_of, TenantState, is_held, with_actor}
use Rattle.server_rules.specs.Tenant.{actor_state, with_state}
use Rattle.server_rules.specs.Moves.{Move, form_ended}
use Rattle.server_rules.specs.Operating.{named_sessions, with_clone, with_vacated_seat, closed_by}
use Rattle.server_rules.specs.Operating.{asker, queued_for, with_queued, after_operation}
use Rattle.server_rules.specs.Operating.{with_asked, with_message}
use Rattle.server_rules.specs.Hearing.{with_messages, new_messages, stream_fault, taken_in}
use Rattle.server_rules.specs.Hearing.{hears_more}
use Rattle.server_rules.specs.Starting.{Started, after_move, start_outcome, interrupted_in}
use Rattle.server_rules.specs.Starting.{held_or, next_begun, text_begun, first_state}
use Rattle.server_rules.specs.Starting.{start_in_hand, start_waiting, action_begun, action_for}
use Rattle.server_rules.specs.Starting.{with_action_begun, start_action}
use Rattle.server_rules.specs.Cells.{NextAction, must_wait}
use Rattle.server_rules.specs.Asking.{may_ask, is_allowed, session_number, answer_outcome, when_told}
use Rattle.server_rules.specs.Asking.{asked_allowed, asked_running, asked_of}
use Rattle.server_rules.specs.Ending.{with_cells_ended, end_compared, end_running, end_of}
use Rattle.server_rules.specs.Deeds.{start_of, for_actor, unless_worn, drain_outcome, plan}
use Rattle.server_rules.specs.Plan.{Deed, hears, starts, asks_for, ends, drains, Outcome, refuses}
use Rattle.server_rules.specs.Plan.{leaves, Plan, quietly}
use Rattle.server_rules.specs.Machine.World.{TenantData, World, Step, opens, does, closes, refused}
use Rattle.server_rules.specs.Machine.World.{is_used, open_count, opened_tenant, open_step}
use Rattle.server_rules.specs.Machine.World.{ended_as, deed_step, close_step, step, world_or, run}
use Rattle.server_rules.specs.declared.actor.Actor.{Actor}
use Rattle.server_rules.specs.declared.refusal.Refusal.{Refusal}
use Rattle.server_rules.proofs.Numbered.{part_under-other, part_under-new}
use Rattle.server_rules.proofs.Rising.{Rising, rising-behind, rising-with, rising-without}
use Rattle.server_rules.proofs.Steps.{room, store_of}

-- the seats rise, and the next session's is above them all
abbrev pub IsSeated : TenantState → Type 0
IsSeated q = Rising 0 (suc (suc q.sessions.opened)) q.actors

-- Hearing

clone-seated
    : (g : Ground) (t : ℕ) (origin : OriginData) (original : Option ℕ) (q : TenantState) → IsSeated q
    → IsSeated (with_clone g t origin original q)
clone-seated g t origin original q h =
    let seat = suc (suc q.sessions.opened) in
    let next : suc seat ≡ suc (suc (q.sessions.opened + 1)) = omega arith in
    subst (λ high. Rising 0 high (q.actors ++ entry seat unoccupied ∷ [])) next
    (rising-behind 0 seat unoccupied q.actors h)

vacated-rising : (seat high : ℕ) (h : Option WorkInHand) (es : List (Entry ActorData))
    → Rising 0 high es → Rising 0 high (with_vacated_seat seat h es)
vacated-rising seat high None es r = rising-without seat 0 high es r
vacated-rising seat high (Some h) es r =
    rising-with seat 0 high (record { waiting = []; hand = Some h; is_closed = true }) es r

closed-seated : (origin : OriginData) (n : ℕ) (q : TenantState) (actor : Option ActorData) → IsSeated q
    → IsSeated (closed_by origin n q actor)
closed-seated origin n q None h = h
closed-seated origin n q (Some actor) h =
    vacated-rising (suc (suc n)) (suc (suc q.sessions.opened)) actor.hand q.actors h

with_actor-seated : (a : Actor) (actor : ActorData) (q : TenantState) → IsSeated q
    → IsSeated (with_actor a actor q)
with_actor-seated a actor q h =
    rising-with (seat_of a) 0 (suc (suc q.sessions.opened)) actor q.actors h

queued-seated : (a : Actor) (w : Waiting) (q : TenantState) (actor : Option ActorData) → IsSeated q
    → IsSeated (queued_for a w q actor)
queued-seated a w q None h = h
queued-seated a w q (Some actor) h =
    with_actor-seated a (record actor { waiting = actor.waiting ++ w ∷ [] }) q h

with_queued-seated : (a : Actor) (origin : OriginData) (text : ProgramText) (q : TenantState)
    → IsSeated q → IsSeated (with_queued a origin text q)
with_queued-seated a origin text q h =
    queued-seated a (record { origin = origin; text = text }) q
    (part_under (seat_of a) q.actors) h

operation-seated
    : (g : Ground) (t : ℕ) (origin : OriginData) (operation : OperationData) (q : TenantState)
    → IsSeated q → IsSeated (after_operation g t origin operation q)
operation-seated g t origin (operations.clone original) q h = clone-seated g t origin original q h
operation-seated g t origin (operations.close n) q h =
    closed-seated origin n q (part_under (suc (suc n)) q.actors) h
operation-seated g t origin (operations.describe session) q h = h
operation-seated g t origin (operations.list_sessions session) q h = h
operation-seated g t origin (operations.eval session text ns) q h =
    with_queued-seated (asker session) origin (code text ns) q h
operation-seated g t origin (operations.load_file session text) q h =
    with_queued-seated (asker session) origin (file text) q h

asked-seated : (g : Ground) (t : ℕ) (asked : Result AskedData ReplyData) (q : TenantState) → IsSeated q
    → IsSeated (with_asked g t asked q)
asked-seated g t (Ok asked) q h = operation-seated g t asked.origin asked.operation q h
asked-seated g t (Err refusal) q h = h

message-seated : (g : Ground) (t : ℕ) (m : wire.Tree) (q : TenantState) → IsSeated q
    → IsSeated (with_message g t m q)
unfolding with_message
message-seated g t (wire.dictionary fields) q h =
    asked-seated g t (operation_or_reply (number_named (named_sessions g t q)) fields) q h
message-seated g t (wire.integer n) q h = h
message-seated g t (wire.string text) q h = h
message-seated g t (wire.list members) q h = h

messages-seated : (g : Ground) (t : ℕ) (ms : List wire.Tree) (q : TenantState) → IsSeated q
    → IsSeated (with_messages g t ms q)
messages-seated g t [] q h = h
messages-seated g t (m ∷ ms) q h =
    messages-seated g t ms (with_message g t m q) (message-seated g t m q h)

taken_in-seated : (g : Ground) (t : ℕ) (piece : List ℕ) (q : TenantState) → IsSeated q
    → IsSeated (taken_in g t piece q)
unfolding taken_in
taken_in-seated g t piece q h =
    messages-seated g t (new_messages g.readings q.heard piece)
    (record q { heard = q.heard ++ piece }) h

-- Outcomes and plans

abbrev SeatedOutcome : Outcome → Type 0
SeatedOutcome (refuses why) = ⊤
SeatedOutcome (leaves q answer) = IsSeated q

abbrev SeatedPlan : Plan → Type 0
SeatedPlan p = (told : Option AnswerData) → SeatedOutcome (p.next told)

either : (b : Bool) (x y : Outcome) → SeatedOutcome x → SeatedOutcome y
    → SeatedOutcome (if b then x else y)
either true x y h k = h
either false x y h k = k

either_plan : (b : Bool) (x y : Plan) → SeatedPlan x → SeatedPlan y
    → SeatedPlan (if b then x else y)
either_plan true x y h k = h
either_plan false x y h k = k

hears_more-seated
    : (g : Ground) (t : ℕ) (piece : List ℕ) (q : TenantState) (fault : Option WireFault) → IsSeated q
    → SeatedOutcome (hears_more g t piece q fault)
hears_more-seated g t piece q (Some f) h = tt
hears_more-seated g t piece q None h =
    either (is_held q) (refuses Refusal.Held) _ tt (taken_in-seated g t piece q h)

-- Starting

state-seated : (a : Actor) (state : StateData) (q : TenantState) → IsSeated q
    → IsSeated (with_state a state q)
state-seated Actor.Agents state q h = h
state-seated Actor.Bare state q h = h
state-seated (Actor.Session n) state q h = h

move-seated : (a : Actor) (actor : ActorData) (m : Move) (q : TenantState) → IsSeated q
    → IsSeated (after_move a actor m q)
move-seated a actor m q h =
    let more : ActorData = record actor { hand = m.hand } in
    state-seated a m.state (with_actor a more q) (with_actor-seated a more q h)

start-seated : (a : Actor) (actor : ActorData) (s : Started) (q : TenantState) → IsSeated q
    → SeatedOutcome (start_outcome a actor s q)
start-seated a actor s q h = move-seated a actor s.move q h

interrupted-seated : (a : Actor) (hand : WorkInHand) (q : TenantState) → IsSeated q
    → SeatedOutcome (interrupted_in a hand q)
interrupted-seated a hand q h =
    rising-without (seat_of a) 0 (suc (suc q.sessions.opened)) q.actors h

held_or-seated : (q : TenantState) (outcome : Outcome) → SeatedOutcome outcome
    → SeatedOutcome (held_or q outcome)
held_or-seated q outcome h = either (is_held q) (refuses Refusal.Held) outcome tt h

in_hand-seated
    : (g : Ground) (a : Actor) (actor : ActorData) (hand : WorkInHand) (q : TenantState) (runs : Bool)
    → IsSeated q → SeatedOutcome (start_in_hand g a actor hand q runs)
in_hand-seated g a actor hand q true h = tt
in_hand-seated g a actor hand q false h =
    let begun : Started = next_begun g hand (actor_state a q) hand.forms in
    let outcome : Outcome = start_outcome a actor begun q in
    either actor.is_closed (interrupted_in a hand q) (held_or q outcome)
    (interrupted-seated a hand q h) (held_or-seated q outcome (start-seated a actor begun q h))

action-seated
    : (g : Ground) (a : Actor) (actor : ActorData) (q : TenantState) (next : Option NextAction)
    → IsSeated q → SeatedOutcome (start_action g a actor q next)
action-seated g a actor q None h = tt
action-seated g a actor q (Some next) h =
    let after : TenantState = with_action_begun q in
    let begun : Started = action_begun g next in
    held_or-seated q (start_outcome a actor begun after) (start-seated a actor begun after h)

waiting-seated
    : (g : Ground) (a : Actor) (actor : ActorData) (q : TenantState) (ws : List Waiting) → IsSeated q
    → SeatedOutcome (start_waiting g a actor q ws)
waiting-seated g a actor q [] h = action-seated g a actor q (action_for a q.cells.agents) h
waiting-seated g a actor q (w ∷ ws) h =
    let left : ActorData = record actor { waiting = ws } in
    let begun : Started = text_begun g q.spaces w.origin (first_state a q) w.text in
    held_or-seated q (start_outcome a left begun q) (start-seated a left begun q h)

start_of-seated
    : (g : Ground) (a : Actor) (actor : ActorData) (q : TenantState) (hand : Option WorkInHand) → IsSeated q
    → SeatedOutcome (start_of g a actor q hand)
start_of-seated g a actor q None h = waiting-seated g a actor q actor.waiting h
start_of-seated g a actor q (Some hand) h =
    in_hand-seated g a actor hand q (is_some hand.running) h

-- Asking

told-seated
    : (told : Option AnswerData) (next : AnswerData → Outcome)
    → ((answer : AnswerData) → SeatedOutcome (next answer)) → SeatedOutcome (when_told told next)
told-seated None next h = tt
told-seated (Some answer) next h = h answer

answer-seated
    : (g : Ground) (a : Actor) (actor : ActorData) (hand : WorkInHand) (run : Run) (ask : AskData)
    (q : TenantState) (told : AnswerData) → IsSeated q
    → SeatedOutcome (answer_outcome g a actor hand run ask q told)
answer-seated g a actor hand run ask q told h =
    either (must_wait (session_number a) ask q.cells) (refuses Refusal.Waiting) _ tt
    (rising-with (seat_of a) 0 (suc (suc q.sessions.opened)) _ q.actors h)

allowed-seated
    : (g : Ground) (a : Actor) (actor : ActorData) (hand : WorkInHand) (run : Run) (ask : AskData)
    (q : TenantState) → IsSeated q → SeatedPlan (asked_allowed g a actor hand run ask q)
allowed-seated g a actor hand run ask q h =
    either_plan actor.is_closed _ _
    (λ told. told-seated told _ (λ answer. interrupted-seated a hand q h))
    (λ told. told-seated told (answer_outcome g a actor hand run ask q)
    (λ answer. answer-seated g a actor hand run ask q answer h))

running-seated
    : (g : Ground) (a : Actor) (actor : ActorData) (hand : WorkInHand) (ask : AskData) (q : TenantState)
    (run : Option Run) → IsSeated q → SeatedPlan (asked_running g a actor hand ask q run)
running-seated g a actor hand ask q None h = λ told. tt
running-seated g a actor hand ask q (Some run) h =
    either_plan (may_ask a ask && is_allowed ask q.cells) (asked_allowed g a actor hand run ask q)
    (quietly (refuses Refusal.Idle)) (allowed-seated g a actor hand run ask q h) (λ told. tt)

asked_of-seated
    : (g : Ground) (a : Actor) (actor : ActorData) (ask : AskData) (q : TenantState) (hand : Option WorkInHand)
    → IsSeated q → SeatedPlan (asked_of g a actor ask q hand)
asked_of-seated g a actor ask q None h = λ told. tt
asked_of-seated g a actor ask q (Some hand) h =
    running-seated g a actor hand ask q hand.running h

-- Ending

compared-seated
    : (a : Actor) (actor : ActorData) (hand : WorkInHand) (run : Run) (e : EndingData) (q : TenantState)
    (same : Bool) (difference : Option ℕ) → IsSeated q
    → SeatedPlan (end_compared a actor hand run e q same difference)
compared-seated a actor hand run e q false difference h = λ told. tt
compared-seated a actor hand run e q true (Some place) h = λ told. tt
compared-seated a actor hand run e q true None h = λ told.
    move-seated a actor (form_ended hand e.end (actor_state a q)) (with_cells_ended a hand run e q) h

end-seated
    : (g : Ground) (a : Actor) (actor : ActorData) (hand : WorkInHand) (e : EndingData) (q : TenantState)
    (run : Option Run) → IsSeated q → SeatedPlan (end_running g a actor hand e q run)
end-seated g a actor hand e q None h = λ told. tt
end-seated g a actor hand e q (Some run) h =
    either_plan actor.is_closed _ _ (λ told. interrupted-seated a hand q h)
    (either_plan (is_held q) (quietly (refuses Refusal.Held)) _ (λ told. tt)
    (compared-seated a actor hand run e q (g.comparisons.is_same_job e.job run.job)
    (g.comparisons.difference e.trace run.trace) h))

end_of-seated
    : (g : Ground) (a : Actor) (actor : ActorData) (e : EndingData) (q : TenantState)
    (hand : Option WorkInHand) → IsSeated q → SeatedPlan (end_of g a actor e q hand)
end_of-seated g a actor e q None h = λ told. tt
end_of-seated g a actor e q (Some hand) h = end-seated g a actor hand e q hand.running h

-- Each deed

worn-seated : (q : TenantState) (p : Plan) → SeatedPlan p → SeatedPlan (unless_worn q p)
worn-seated q p h =
    either_plan (q.steps == 0) (quietly (refuses Refusal.Worn)) p (λ told. tt) h

actor-seated : (actor : Option ActorData) (p : ActorData → Plan)
    → ((one : ActorData) → SeatedPlan (p one)) → SeatedPlan (for_actor actor p)
actor-seated None p h = λ told. tt
actor-seated (Some actor) p h = h actor

drained-seated : (q : TenantState) (replies : List ReplyData) → IsSeated q
    → SeatedOutcome (drain_outcome q replies)
drained-seated q [] h = tt
drained-seated q (oldest ∷ more) h = h

plan-seated : (g : Ground) (t : ℕ) (q : TenantState) (d : Deed) → IsSeated q
    → SeatedPlan (plan g t q d)
plan-seated g t q (hears piece) h = λ told.
    either (q.steps == 0) (refuses Refusal.Worn) _ tt
    (hears_more-seated g t piece q (stream_fault g.readings q.heard) h)
plan-seated g t q (starts a) h =
    worn-seated q _ (actor-seated (part_under (seat_of a) q.actors) _
    (λ actor. λ told. start_of-seated g a actor q actor.hand h))
plan-seated g t q (asks_for a ask) h =
    worn-seated q _ (actor-seated (part_under (seat_of a) q.actors) _
    (λ actor. asked_of-seated g a actor ask q actor.hand h))
plan-seated g t q (ends a e) h =
    worn-seated q _ (actor-seated (part_under (seat_of a) q.actors) _
    (λ actor. end_of-seated g a actor e q actor.hand h))
plan-seated g t q drains h = λ told. drained-seated q q.replies h

-- Each step of the server

abbrev pub SeatedPart : Option (Option TenantData) → Type 0
SeatedPart None = ⊤
SeatedPart (Some None) = ⊤
SeatedPart (Some (Some tenant)) = IsSeated tenant.state

abbrev pub SeatedWorld : World → Type 0
SeatedWorld w = (t : ℕ) → SeatedPart (part_under t w.tenants)

part-seated
    : (t u : ℕ) (part old : Option TenantData) (es : List (Entry (Option TenantData)))
    → part_under u es ≡ Some old → SeatedPart (Some part) → SeatedPart (part_under t es)
    → SeatedPart (part_under t (with_part u part es))
part-seated t u part old es here new kept = elim (cases_eq t u) [
  | inl same ↦ subst (λ n. SeatedPart (part_under n (with_part u part es))) (sym same)
      (subst SeatedPart (sym (part_under-new u part old es here)) new)
  | inr other ↦ subst SeatedPart (sym (part_under-other t u part es other)) kept
]

ended-seated
    : (w : World) (t : ℕ) (old : Option TenantData) → part_under t w.tenants ≡ Some old
    → SeatedWorld w → (s : Store) (o : Outcome) → SeatedOutcome o
    → SeatedWorld (world_or w (ended_as w t s o))
ended-seated w t old here seated s (refuses why) h = seated
ended-seated w t old here seated s (leaves q answer) h = λ n.
    part-seated n t (Some (record { state = q; mine = s.mine })) old w.tenants here h (seated n)

deed-seated
    : (g : Ground) (w : World) (t : ℕ) (d : Deed) (part : Option (Option TenantData))
    → SeatedWorld w → SeatedPart part → part_under t w.tenants ≡ part
    → SeatedWorld (world_or w (deed_step g w t d part))
deed-seated g w t d None seated mine here = seated
deed-seated g w t d (Some None) seated mine here = seated
deed-seated g w t d (Some (Some tenant)) seated mine here =
    let p : Plan = plan g t tenant.state d in
    let called = performed (store_of w t tenant) p.call in
    ended-seated w t (Some tenant) here seated called.store (p.next called.told)
    (plan-seated g t tenant.state d mine called.told)

close-seated
    : (w : World) (t : ℕ) (part : Option (Option TenantData)) → SeatedWorld w
    → part_under t w.tenants ≡ part → SeatedWorld (world_or w (close_step w t part))
close-seated w t None seated here = seated
close-seated w t (Some None) seated here = seated
close-seated w t (Some (Some tenant)) seated here = λ n.
    part-seated n t None (Some tenant) w.tenants here tt (seated n)

opened-seated : (g : Ground) (w : World) (t u : ℕ) → SeatedWorld w
    → SeatedPart (part_under t (entry u (Some (opened_tenant g)) ∷ w.tenants))
opened-seated g w t u seated = by (t == u) where
  by : (b : Bool)
      → SeatedPart (if b then Some (Some (opened_tenant g)) else part_under t w.tenants)
  by true = (omega arith, (omega arith, omega arith))
  by false = seated t

room-seated : (g : Ground) (w : World) (u : ℕ) (full : Bool) → SeatedWorld w
    → SeatedWorld (world_or w (room g w u full))
room-seated g w u true seated = seated
room-seated g w u false seated = λ t. opened-seated g w t u seated

open-seated : (g : Ground) (w : World) (u : ℕ) → SeatedWorld w
    → SeatedWorld (world_or w (open_step g w u))
open-seated g w u seated = by (is_used u w.tenants) where
  full : Bool
  full = nat_le g.places (open_count w.tenants)

  by : (b : Bool)
      → SeatedWorld (world_or w (if b then refused Refusal.NumberUsed else room g w u full))
  by true = seated
  by false = room-seated g w u full seated

step-seated : (g : Ground) (w : World) (s : Step) → SeatedWorld w
    → SeatedWorld (world_or w (step g w s))
unfolding step
step-seated g w (opens u) seated = open-seated g w u seated
step-seated g w (does u d) seated =
    deed-seated g w u d (part_under u w.tenants) seated (seated u) refl
step-seated g w (closes u) seated = close-seated w u (part_under u w.tenants) seated refl

pub run-seated : (g : Ground) (w : World) (steps : List Step) → SeatedWorld w
    → SeatedWorld (run g w steps)
run-seated g w [] seated = seated
run-seated g w (s ∷ ss) seated =
    run-seated g (world_or w (step g w s)) ss (step-seated g w s seated)
