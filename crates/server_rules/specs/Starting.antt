-- Starting: an actor begins the next form of the request in hand, or takes up its next request; that
-- of agents takes up the next action.
use Rattle.std.specs.Prelude.{ℕ, List, [], ◌∷◌, Bool, true, false, Option, None, Some, option_map}
use Rattle.std.specs.Prelude.{codes, option_and_then, if◌then◌else◌}
use Rattle.bencode_wire.specs.Tree.{Tree}
use Rattle.value_data.specs.Datum.{nil, Items, no_items, item}
use Rattle.repl_asks.specs.Job as jobs
use Rattle.repl_asks.specs.Job.{JobData}
use Rattle.private_cells.specs.Agents.{AgentsData, with_next_begun}
use Rattle.repl_sessions.specs.State.{StateData, fresh}
use Rattle.name_spaces.specs.Namespaces.{Namespaces, is_there}
use Rattle.repl_replies.specs.Fields.{text_of}
use Rattle.repl_replies.specs.Replies.{OriginData, namespace_not_found, interrupted}
use Rattle.ref_table.specs.Numbered.{without}
use Rattle.server_rules.specs.Readings.{ProgramData, text_failure}
use Rattle.server_rules.specs.Ground.{Ground}
use Rattle.server_rules.specs.Request.{Waiting, ProgramText, code, file, Manner, WorkInHand, each_form}
use Rattle.server_rules.specs.Request.{each_form_elsewhere, last_form, of_action}
use Rattle.server_rules.specs.Cells.{NextAction, next_action, with_agents}
use Rattle.server_rules.specs.Tenant.{ActorData, seat_of, TenantState, is_held, with_actor, with_replies}
use Rattle.server_rules.specs.Tenant.{actor_state, with_state}
use Rattle.server_rules.specs.Replying.{reply}
use Rattle.server_rules.specs.Moves.{Move, over_move, in_hand, closing_move}
use Rattle.server_rules.specs.Plan.{Outcome, refuses, leaves, StepAnswer, form_begun}
use Rattle.server_rules.specs.Plan.{request_answered, request_interrupted, with_step_spent}
use Rattle.server_rules.specs.declared.actor.Actor.{Actor}
use Rattle.server_rules.specs.declared.refusal.Refusal.{Refusal}

-- what comes of a start: a form runs, or the request is done
pub record Started : Type 0 where
  pub move : Move
  pub answer : StepAnswer

abbrev pub form_job : Ground → WorkInHand → jobs.WorkData → JobData
form_job g h work = record { work = work; namespace = h.namespace; retries = g.retries }

-- the first of the forms begins
abbrev pub next_begun : Ground → WorkInHand → StateData → Items → Started
next_begun g h state no_items =
    record { move = closing_move h.origin h.manner h.fault state; answer = request_answered }
next_begun g h state (item d ds) =
    let job = form_job g h (jobs.form d) in
    let begun : WorkInHand = record h { running = Some (record { job = job; trace = [] }); forms = ds } in
    record { move = in_hand begun state; answer = form_begun job }

abbrev pub hand_of : OriginData → Manner → List ℕ → ProgramData → WorkInHand
hand_of origin manner namespace p = record {
  origin = origin;
  manner = manner;
  namespace = namespace;
  running = None;
  forms = p.forms;
  fault = option_map text_failure p.fault;
}

abbrev pub program_begun : Ground → OriginData → Manner → List ℕ → StateData → ProgramData → Started
program_begun g origin manner namespace state p =
    next_begun g (hand_of origin manner namespace p) state p.forms

-- the namespace that a request names, if it is there
abbrev pub namespace_there : Namespaces → List ℕ → Option (List ℕ)
namespace_there spaces name = if is_there spaces name then Some name else None

abbrev pub elsewhere_begun : Ground → OriginData → List ℕ → StateData → Option (List ℕ) → Started
elsewhere_begun g origin text state None =
    let move = over_move (reply origin namespace_not_found ∷ []) state in
    record { move = move; answer = request_answered }
elsewhere_begun g origin text state (Some name) =
    program_begun g origin each_form_elsewhere name state (g.readings.program text)

abbrev pub code_begun : Ground → Namespaces → OriginData → List ℕ → StateData → Option Tree
    → Started
code_begun g spaces origin text state None =
    program_begun g origin each_form state.namespace state (g.readings.program text)
code_begun g spaces origin text state (Some ns) =
    elsewhere_begun g origin text state
    (option_and_then (namespace_there spaces) (text_of (Some ns)))

abbrev pub text_begun : Ground → Namespaces → OriginData → StateData → ProgramText → Started
text_begun g spaces origin state (code text ns) = code_begun g spaces origin text state ns
text_begun g spaces origin state (file text) =
    program_begun g origin (last_form nil) state.namespace state (g.readings.program text)

-- only a session remembers something for its next request
abbrev pub first_state : Actor → TenantState → StateData
first_state Actor.Agents q = fresh
first_state Actor.Bare q = fresh
first_state (Actor.Session n) q = actor_state (Actor.Session n) q

-- the actor goes on with what is still to do
abbrev pub after_move : Actor → ActorData → Move → TenantState → TenantState
after_move a actor m q = with_replies m.replies
    (with_state a m.state (with_actor a (record actor { hand = m.hand }) q))

abbrev pub start_outcome : Actor → ActorData → Started → TenantState → Outcome
start_outcome a actor s q = leaves (with_step_spent (after_move a actor s.move q)) s.answer

-- Interrupting: the request is answered so, and the actor of the closed session is gone
abbrev pub interrupted_in : Actor → WorkInHand → TenantState → Outcome
interrupted_in a h q = leaves
    (with_step_spent (with_replies (reply h.origin interrupted ∷ [])
    (record q { actors = without (seat_of a) q.actors })))
    request_interrupted

abbrev pub held_or : TenantState → Outcome → Outcome
held_or q outcome = if is_held q then refuses Refusal.Held else outcome

-- a form of the request in hand, where none runs
abbrev pub start_in_hand : Ground → Actor → ActorData → WorkInHand → TenantState → Bool → Outcome
start_in_hand g a actor h q true = refuses Refusal.Idle
start_in_hand g a actor h q false =
    if actor.is_closed then interrupted_in a h q
    else held_or q (start_outcome a actor (next_begun g h (actor_state a q) h.forms) q)

-- Actions

abbrev pub action_job : Ground → NextAction → JobData
action_job g next = record {
  work = jobs.action next.state next.action.task;
  namespace = codes "user";
  retries = g.retries;
}

abbrev pub action_hand : Ground → NextAction → WorkInHand
action_hand g next = record {
  origin = next.action.origin;
  manner = of_action next.action.session;
  namespace = codes "user";
  running = Some (record { job = action_job g next; trace = [] });
  forms = no_items;
  fault = None;
}

abbrev pub action_begun : Ground → NextAction → Started
action_begun g next = record {
  move = in_hand (action_hand g next) fresh;
  answer = form_begun (action_job g next);
}

abbrev pub with_action_begun : TenantState → TenantState
with_action_begun q = record q { cells = with_agents (with_next_begun q.cells.agents) q.cells }

abbrev pub start_action : Ground → Actor → ActorData → TenantState → Option NextAction → Outcome
start_action g a actor q None = refuses Refusal.Idle
start_action g a actor q (Some next) =
    held_or q (start_outcome a actor (action_begun g next) (with_action_begun q))

-- what an actor for which no request waits may take up: none comes to that of agents
abbrev pub action_for : Actor → AgentsData → Option NextAction
action_for Actor.Agents agents = next_action agents
action_for a agents = None

abbrev pub start_waiting : Ground → Actor → ActorData → TenantState → List Waiting → Outcome
start_waiting g a actor q [] = start_action g a actor q (action_for a q.cells.agents)
start_waiting g a actor q (w ∷ ws) = held_or q
    (start_outcome a (record actor { waiting = ws })
    (text_begun g q.spaces w.origin (first_state a q) w.text) q)
