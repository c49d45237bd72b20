-- What a deed that was accepted leaves.
use Rattle.std.proofs.Common.{◌≡◌, ◌==◌, ℕ, List, Bool, true, false, length, Option, Some, None}
use Rattle.std.proofs.Common.{option_and_then, refl, sym, ap, ◌∙◌, if◌then◌else◌, ◌&&◌}
use Rattle.bencode_wire.specs.declared.fault.WireFault.{WireFault}
use Rattle.repl_asks.specs.Exchange.{AskData, AnswerData}
use Rattle.ref_table.specs.Calls.{gives_up, performed}
use Rattle.server_rules.specs.Cells.{must_wait}
use Rattle.server_rules.specs.Ground.{Ground}
use Rattle.server_rules.specs.Hearing.{stream_fault, new_messages, taken_in}
use Rattle.ref_table.specs.Numbered.{part_under}
use Rattle.server_rules.specs.Request.{WorkInHand, Run}
use Rattle.ref_table.specs.Store.{Store}
use Rattle.server_rules.specs.Tenant.{ActorData, TenantState, seat_of, is_held}
use Rattle.server_rules.specs.Plan as deeds
use Rattle.server_rules.specs.Plan.{Plan, Outcome, StepAnswer, refuses, leaves, with_step_spent}
use Rattle.server_rules.specs.Plan.{quietly, messages_heard, ask_answered}
use Rattle.server_rules.specs.Deeds.{for_actor}
use Rattle.server_rules.specs.Asking.{asked_of, asked_running, asked_allowed, answer_outcome}
use Rattle.server_rules.specs.Asking.{ask_outcome, may_ask, session_number}
use Rattle.server_rules.specs.Asking.{answer_to, with_recorded_answer, state_after, call_of}
use Rattle.server_rules.specs.Asking.{sender_of}
use Rattle.server_rules.specs.Asking.{is_allowed, when_told}
use Rattle.server_rules.specs.Starting.{interrupted_in}
use Rattle.server_rules.specs.declared.actor.Actor.{Actor}
use Rattle.server_rules.specs.declared.refusal.Refusal.{Refusal}
use Rattle.server_rules.specs.DeedResult.{carried_out, deed_result}
use Rattle.tenant_asks.specs.Asking.{exchange_from, run_with}
use Rattle.tenant_world.specs.Running.{running_of, running_in}
use Rattle.tenant_world.proofs.Standing.{asks-by}
use Rattle.tenant_world.proofs.Heard.{heard_by, hears-by}
use Rattle.repl_core.proofs.Runs.{part_under-put}

-- what is left
abbrev left_of : TenantState → Outcome → TenantState
left_of q (refuses why) = q
left_of q (leaves after answer) = after

pub heard-after : (g : Ground) (q : TenantState) (s : Store) (piece : List ℕ) (after : TenantState)
    (answer : StepAnswer) → (deed_result g s q (deeds.hears piece)).outcome ≡ leaves after answer
    → after ≡ with_step_spent (taken_in g s.tenant piece q)
heard-after g q s piece after answer is =
    by (q.steps == 0) (stream_fault g.readings q.heard) (sym (hears-by g q s piece) ∙ is)
  where
    held : (b : Bool) → (if b then refuses Refusal.Held else leaves (with_step_spent (taken_in g s.tenant piece q))
        (messages_heard (length (new_messages g.readings q.heard piece)))) ≡ leaves after answer
        → after ≡ with_step_spent (taken_in g s.tenant piece q)
    held true never = absurd (cc)
    held false same = sym (ap (left_of q) same)

    by : (b : Bool) (fault : Option WireFault) → heard_by g s.tenant piece q b fault ≡ leaves after answer
        → after ≡ with_step_spent (taken_in g s.tenant piece q)
    by true fault never = absurd (cc)
    by false (Some f) never = absurd (cc)
    by false None same = held (is_held q) same

-- an ask that was answered is in the trace of the form that runs
pub answered-after : (g : Ground) (q : TenantState) (s : Store) (a : Actor) (ask : AskData) (after : TenantState)
    (ans : AnswerData) (run : Run)
    → (deed_result g s q (deeds.asks_for a ask)).outcome ≡ leaves after (ask_answered ans)
    → running_in a q ≡ Some run
    → running_in a after ≡ Some (run_with (exchange_from ask ans) run)
answered-after g q s a ask after ans run is runs =
    worn (q.steps == 0) (sym (ap (λ d. d.outcome) (asks-by g q s a ask)) ∙ is)
  where
    p : ActorData → Plan
    p actor = asked_of g a actor ask q actor.hand

    waits : (actor : ActorData) (h : WorkInHand) → part_under (seat_of a) q.actors ≡ Some actor
        → (x : AnswerData) (b : Bool)
        → (if b then refuses Refusal.Waiting else ask_outcome g a actor h run ask q x)
        ≡ leaves after (ask_answered ans)
        → running_in a after ≡ Some (run_with (exchange_from ask ans) run)
    waits actor h there x true never = absurd (cc)
    waits actor h there x false same =
        let answer = answer_to g a q ask x in
        let more = run_with (exchange_from ask answer) run in
        let new = record actor { hand = Some (record h { running = Some more }) } in
        let later = state_after (sender_of a h) ask answer q in
        let behind : after ≡ with_step_spent (with_recorded_answer a actor h run ask answer later) =
        sym (ap (left_of q) same) in
        let equal : answer ≡ ans = cc in
        ap (running_in a) behind
        ∙ ap running_of ((part_under-put (seat_of a) (seat_of a) new actor q.actors there).0 refl)
        ∙ ap (λ y. Some (run_with (exchange_from ask y) run)) equal

    told : (actor : ActorData) (h : WorkInHand) → part_under (seat_of a) q.actors ≡ Some actor
        → (o : Option AnswerData)
        → when_told o (answer_outcome g a actor h run ask q) ≡ leaves after (ask_answered ans)
        → running_in a after ≡ Some (run_with (exchange_from ask ans) run)
    told actor h there None never = absurd (cc)
    told actor h there (Some x) same = waits actor h there x (must_wait (session_number a) ask q.cells) same

    interrupted : (h : WorkInHand) → (o : Option AnswerData)
        → when_told o (λ _. interrupted_in a h q) ≡ leaves after (ask_answered ans) → ⊥
    interrupted h None never = absurd (cc)
    interrupted h (Some x) never = absurd (cc)

    closed : (actor : ActorData) (h : WorkInHand) → part_under (seat_of a) q.actors ≡ Some actor → (b : Bool)
        → (carried_out s (if b then record {
          call = gives_up (seat_of a) (call_of (seat_of a) ask);
          next = λ told. when_told told (λ _. interrupted_in a h q);
        } else record {
          call = call_of (seat_of a) ask;
          next = λ told. when_told told (answer_outcome g a actor h run ask q);
        })).outcome ≡ leaves after (ask_answered ans)
        → running_in a after ≡ Some (run_with (exchange_from ask ans) run)
    closed actor h there true never =
        absurd (interrupted h (performed s (gives_up (seat_of a) (call_of (seat_of a) ask))).told never)
    closed actor h there false same =
        told actor h there (performed s (call_of (seat_of a) ask)).told same

    allowed : (actor : ActorData) (h : WorkInHand) → part_under (seat_of a) q.actors ≡ Some actor → (b : Bool)
        → (carried_out s (if b then asked_allowed g a actor h run ask q
        else quietly (refuses Refusal.Idle))).outcome ≡ leaves after (ask_answered ans)
        → running_in a after ≡ Some (run_with (exchange_from ask ans) run)
    allowed actor h there true same = closed actor h there actor.is_closed same
    allowed actor h there false never = absurd (cc)

    of_run : (actor : ActorData) (h : WorkInHand) → part_under (seat_of a) q.actors ≡ Some actor
        → (r : Option Run) → r ≡ Some run
        → (carried_out s (asked_running g a actor h ask q r)).outcome ≡ leaves after (ask_answered ans)
        → running_in a after ≡ Some (run_with (exchange_from ask ans) run)
    of_run actor h there r some same = allowed actor h there (may_ask a ask && is_allowed ask q.cells)
        (sym (ap (λ x. (carried_out s (asked_running g a actor h ask q x)).outcome) some) ∙ same)

    in_hand : (actor : ActorData) → part_under (seat_of a) q.actors ≡ Some actor → (h : Option WorkInHand)
        → option_and_then (λ x. x.running) h ≡ Some run
        → (carried_out s (asked_of g a actor ask q h)).outcome ≡ leaves after (ask_answered ans)
        → running_in a after ≡ Some (run_with (exchange_from ask ans) run)
    in_hand actor there None never same = absurd (cc)
    in_hand actor there (Some h) some same = of_run actor h there h.running some same

    by : (o : Option ActorData) → part_under (seat_of a) q.actors ≡ o → running_of o ≡ Some run
        → (carried_out s (for_actor o p)).outcome ≡ leaves after (ask_answered ans)
        → running_in a after ≡ Some (run_with (exchange_from ask ans) run)
    by None there never same = absurd (cc)
    by (Some actor) there some same = in_hand actor there actor.hand some same

    worn : (b : Bool) → (carried_out s (if b then quietly (refuses Refusal.Worn)
        else for_actor (part_under (seat_of a) q.actors) p)).outcome ≡ leaves after (ask_answered ans)
        → running_in a after ≡ Some (run_with (exchange_from ask ans) run)
    worn true never = absurd (cc)
    worn false same = by (part_under (seat_of a) q.actors) refl runs same
