-- Asking: the ask of a form that runs is answered, and the pair recorded.
use Rattle.std.specs.Prelude.{ℕ, List, [], ◌∷◌, ◌++◌, Bool, true, false, not, Option, None}
use Rattle.std.specs.Prelude.{Some, ◌&&◌}
use Rattle.std.specs.Prelude.{◌^◌, ◌==◌, nat_lt, if◌then◌else◌}
use Rattle.value_data.specs.Datum.{Datum}
use Rattle.repl_asks.specs.Namespaces.{is_fixed}
use Rattle.repl_asks.specs.Exchange as exchange
use Rattle.repl_asks.specs.Exchange.{AskData, AnswerData, ResolutionData, names_value}
use Rattle.repl_sessions.specs.State.{StateData}
use Rattle.name_spaces.specs.Namespaces.{Namespaces, with_entered_namespace, with_definition}
use Rattle.name_spaces.specs.Resolving as names
use Rattle.name_spaces.specs.Resolving.{FoundData, found_resolution, found_latest}
use Rattle.name_spaces.specs.declared.latest.Latest.{Latest}
use Rattle.ref_table.specs.Calls.{StoreCall, nothing, makes, begins, reads, counts, tells_least}
use Rattle.ref_table.specs.Calls.{tells_most, sets_least, sets_most, commits, inside, outside}
use Rattle.ref_table.specs.Calls.{gives_up}
use Rattle.server_rules.specs.Cells.{CellsData, has_named, cell_answer, SenderData, cells_after}
use Rattle.server_rules.specs.Cells.{must_wait}
use Rattle.server_rules.specs.Ground.{Ground}
use Rattle.server_rules.specs.Request.{Manner, of_action, WorkInHand, Run}
use Rattle.server_rules.specs.Tenant.{ActorData, seat_of, TenantState, with_actor, actor_state}
use Rattle.server_rules.specs.Starting.{interrupted_in}
use Rattle.server_rules.specs.Plan.{Outcome, refuses, leaves, ask_answered, Plan, quietly}
use Rattle.server_rules.specs.Plan.{with_step_spent}
use Rattle.server_rules.specs.declared.actor.Actor.{Actor}
use Rattle.server_rules.specs.declared.refusal.Refusal.{Refusal}

-- an action asks also outside of attempts whether it may send
abbrev pub may_send_call : ℕ → StoreCall
may_send_call seat = if seat == seat_of Actor.Agents then nothing else inside seat

-- what is asked of the refs
abbrev pub call_of : ℕ → AskData → StoreCall
call_of seat (exchange.new_ref d least most) = makes d least most
call_of seat exchange.begin = begins seat
call_of seat (exchange.read name) = reads seat name
call_of seat (exchange.history name) = counts seat name
call_of seat (exchange.min_history name None) = tells_least name
call_of seat (exchange.min_history name (Some n)) = sets_least name n
call_of seat (exchange.max_history name None) = tells_most name
call_of seat (exchange.max_history name (Some n)) = sets_most name n
call_of seat (exchange.commit intent) = commits seat intent
call_of seat (exchange.send s) = outside seat
call_of seat (exchange.may_send s) = may_send_call seat
call_of seat (exchange.await ns) = outside seat
call_of seat _ = nothing

-- a bound of a history is a number of the language
abbrev pub is_bound : ℕ → Bool
is_bound n = nat_lt n (2 ^ 63)

abbrev pub may_be_set : Option ℕ → Bool
may_be_set None = true
may_be_set (Some n) = is_bound n

-- outside of attempts an action sends nothing before it ends, and it awaits nothing
abbrev pub may_ask : Actor → AskData → Bool
may_ask Actor.Agents (exchange.send s) = false
may_ask Actor.Agents (exchange.await ns) = false
may_ask a ask = true

-- nothing is defined in a namespace that is fixed, and nobody enters it; a tenant asks of its own
-- atoms and agents alone
abbrev pub is_allowed : AskData → CellsData → Bool
is_allowed (exchange.define namespace name binding) cells = not (is_fixed namespace)
is_allowed (exchange.enter name) cells = not (is_fixed name)
is_allowed (exchange.new_ref d least most) cells = is_bound least && is_bound most
is_allowed (exchange.min_history name set) cells = may_be_set set
is_allowed (exchange.max_history name set) cells = may_be_set set
is_allowed ask cells = has_named ask cells

abbrev pub latest_of : Latest → StateData → Datum
latest_of Latest.One state = state.one
latest_of Latest.Two state = state.two
latest_of Latest.Three state = state.three
latest_of Latest.Fault state = state.fault

abbrev pub resolution_of : StateData → FoundData → ResolutionData
resolution_of state (found_resolution r) = r
resolution_of state (found_latest latest) = names_value (latest_of latest state)

abbrev pub symbol_resolution : Ground → Actor → TenantState → List ℕ → List ℕ → ResolutionData
symbol_resolution g a q namespace symbol =
    resolution_of (actor_state a q) (names.resolved g.shared.names q.spaces namespace symbol)

-- The answer is what the refs told, but for symbols, atoms and agents; to a definition and to an
-- entered namespace they told `done`.
abbrev pub answer_to : Ground → Actor → TenantState → AskData → AnswerData → AnswerData
answer_to g a q (exchange.resolve namespace symbol) told =
    exchange.resolution (symbol_resolution g a q namespace symbol)
answer_to g a q ask told = cell_answer ask q.cells told

abbrev pub spaces_after : AskData → Namespaces → Namespaces
spaces_after (exchange.define namespace name binding) spaces =
    with_definition spaces namespace name binding
spaces_after (exchange.enter name) spaces = with_entered_namespace spaces name
spaces_after _ spaces = spaces

abbrev pub session_number : Actor → Option ℕ
session_number (Actor.Session n) = Some n
session_number a = None

-- what an action sends comes from the session that sent the action
abbrev pub sending_session : Actor → Manner → Option ℕ
sending_session a (of_action session) = session
sending_session a manner = session_number a

abbrev pub sender_of : Actor → WorkInHand → SenderData
sender_of a h = record { origin = h.origin; session = sending_session a h.manner }

-- what an ask that is answered so makes of the tenant, beside its refs
abbrev pub state_after : SenderData → AskData → AnswerData → TenantState → TenantState
state_after sender ask answer q = record q {
  spaces = spaces_after ask q.spaces;
  cells = cells_after sender ask answer q.cells;
}

abbrev pub with_recorded_answer : Actor → ActorData → WorkInHand → Run → AskData → AnswerData → TenantState
    → TenantState
with_recorded_answer a actor h run ask answer q =
    let trace = run.trace ++ record { ask = ask; answer = answer } ∷ [] in
    let more : Run = record run { trace = trace } in
    with_actor a (record actor { hand = Some (record h { running = Some more }) }) q

abbrev pub ask_outcome : Ground → Actor → ActorData → WorkInHand → Run → AskData → TenantState → AnswerData
    → Outcome
ask_outcome g a actor h run ask q told =
    let answer = answer_to g a q ask told in
    let after = state_after (sender_of a h) ask answer q in
    leaves (with_step_spent (with_recorded_answer a actor h run ask answer after))
    (ask_answered answer)

-- an await that is not met stays asked
abbrev pub answer_outcome : Ground → Actor → ActorData → WorkInHand → Run → AskData → TenantState → AnswerData
    → Outcome
answer_outcome g a actor h run ask q told =
    if must_wait (session_number a) ask q.cells then refuses Refusal.Waiting
    else ask_outcome g a actor h run ask q told

-- an ask that breaks a rule is none of an evaluation's
abbrev pub when_told : Option AnswerData → (AnswerData → Outcome) → Outcome
when_told None next = refuses Refusal.Idle
when_told (Some told) next = next told

abbrev pub calling : StoreCall → (AnswerData → Outcome) → Plan
calling call next = record { call = call; next = λ told. when_told told next }

abbrev pub asked_allowed : Ground → Actor → ActorData → WorkInHand → Run → AskData → TenantState → Plan
asked_allowed g a actor h run ask q =
    if actor.is_closed
    then calling (gives_up (seat_of a) (call_of (seat_of a) ask)) (λ _. interrupted_in a h q)
    else calling (call_of (seat_of a) ask) (answer_outcome g a actor h run ask q)

abbrev pub asked_running : Ground → Actor → ActorData → WorkInHand → AskData → TenantState → Option Run → Plan
asked_running g a actor h ask q None = quietly (refuses Refusal.Idle)
asked_running g a actor h ask q (Some run) =
    if may_ask a ask && is_allowed ask q.cells then asked_allowed g a actor h run ask q
    else quietly (refuses Refusal.Idle)

abbrev pub asked_of : Ground → Actor → ActorData → AskData → TenantState → Option WorkInHand → Plan
asked_of g a actor ask q None = quietly (refuses Refusal.Idle)
asked_of g a actor ask q (Some h) = asked_running g a actor h ask q h.running
