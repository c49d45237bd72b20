-- The agents of a tenant (the Clojure reference, Agents and Asynchronous Actions): states under
-- numbers from 0, each with the actions that were sent to it.
use Rattle.std.specs.Prelude.{ℕ, suc, ◌+◌, List, [], ◌∷◌, ◌++◌, map, Bool, false, ◌||◌, not}
use Rattle.std.specs.Prelude.{if◌then◌else◌, Option, Some, None, option_map, is_some, slice_get}
use Rattle.std.specs.Prelude.{nat_lt}
use Rattle.std.specs.List.{list_any}
use Rattle.value_data.specs.Datum.{Datum}
use Rattle.repl_values.specs.Failure.{Failure}
use Rattle.repl_values.specs.Places.{changed_at}
use Rattle.private_cells.specs.Actions.{ActionData, is_of}
use Rattle.private_cells.specs.declared.awaiting.Await.{Await}

-- an action with the number of its sending
pub record SentAction : Type 0 where
  pub number : ℕ
  pub action : ActionData

pub record AgentData : Type 0 where
  pub state : Datum
  -- what its last action ended with, if the agent is failed
  pub fault : Option Failure
  -- what was sent to it and has not begun, in order
  pub waiting : List SentAction
  pub running : Option SentAction

pub record AgentsData : Type 0 where
  pub agents : List AgentData
  -- how many actions were sent: the number of the next
  pub sent : ℕ

abbrev pub no_agents : AgentsData
no_agents = record { agents = []; sent = 0 }

abbrev pub agent_at : ℕ → AgentsData → Option AgentData
agent_at number s = slice_get s.agents number

-- the agent of this number, if there is one, is changed
abbrev pub with_agent_changed : ℕ → (AgentData → AgentData) → AgentsData → AgentsData
with_agent_changed number f s = record s { agents = changed_at number f s.agents }

abbrev pub at_rest : Datum → AgentData
at_rest state = record { state = state; fault = None; waiting = []; running = None }

-- one agent more, whose number is how many there were
abbrev pub with_agent : Datum → AgentsData → AgentsData
with_agent state s = record s { agents = s.agents ++ at_rest state ∷ [] }

abbrev pub agent_state : ℕ → AgentsData → Option Datum
agent_state number s = option_map (λ a. a.state) (agent_at number s)

abbrev pub agent_fault_in : Option AgentData → Option Failure
agent_fault_in None = None
agent_fault_in (Some a) = a.fault

-- what the agent of this number failed with, if it is failed
abbrev pub agent_fault : ℕ → AgentsData → Option Failure
agent_fault number s = agent_fault_in (agent_at number s)

abbrev pub is_failed : ℕ → AgentsData → Bool
is_failed number s = is_some (agent_fault number s)

abbrev pub takes_sends : Option AgentData → Bool
takes_sends None = false
takes_sends (Some a) = not (is_some a.fault)

-- whether something may be sent to the agent of this number: it is there, and not failed
abbrev pub may_send : ℕ → AgentsData → Bool
may_send number s = takes_sends (agent_at number s)

abbrev pub waiting_in : Option AgentData → List SentAction
waiting_in None = []
waiting_in (Some a) = a.waiting

-- what waits for the agent of this number, in order
abbrev pub waiting_for : ℕ → AgentsData → List SentAction
waiting_for number s = waiting_in (agent_at number s)

-- Sending. What is sent to a failed agent waits there too: it is for the sender to look first.

abbrev pub with_waiting : SentAction → AgentData → AgentData
with_waiting x a = record a { waiting = a.waiting ++ x ∷ [] }

-- an action is sent to the agent of this number, under the next number
abbrev pub with_send : ℕ → ActionData → AgentsData → AgentsData
with_send number action s = record {
  agents = changed_at number (with_waiting (record { number = s.sent; action = action })) s.agents;
  sent = s.sent + 1;
}

-- Running. One action of the tenant runs at a time.

abbrev pub runs_action : AgentData → Bool
runs_action a = is_some a.running

-- an agent, and the number of the first action that waits for it
pub record ActionTurn : Type 0 where
  pub number : ℕ
  pub agent : ℕ

abbrev pub turn_by : ℕ → Option Failure → List SentAction → Option ActionTurn
turn_by place (Some f) xs = None
turn_by place None [] = None
turn_by place None (x ∷ xs) = Some (record { number = x.number; agent = place })

-- the turn of the agent at a place, unless it is failed or nothing waits for it
abbrev pub action_turn : ℕ → AgentData → Option ActionTurn
action_turn place a = turn_by place a.fault a.waiting

-- of two turns the one with the lower number
abbrev pub earlier : Option ActionTurn → Option ActionTurn → Option ActionTurn
earlier None y = y
earlier (Some x) None = Some x
earlier (Some x) (Some y) = if nat_lt y.number x.number then Some y else Some x

-- the turn with the least number, of agents that lie at places from this one on
abbrev pub earliest : ℕ → List AgentData → Option ActionTurn
earliest place [] = None
earliest place (a ∷ agents) = earlier (action_turn place a) (earliest (suc place) agents)

-- the turn that comes next; none while an action runs
abbrev pub next_turn : AgentsData → Option ActionTurn
next_turn s = if list_any runs_action s.agents then None else earliest 0 s.agents

abbrev pub begun : List SentAction → AgentData → AgentData
begun [] a = a
begun (x ∷ xs) a = record a { waiting = xs; running = Some x }

-- the first action that waits for the agent runs
abbrev pub with_begun : AgentData → AgentData
with_begun a = begun a.waiting a

abbrev pub with_turn_taken : Option ActionTurn → AgentsData → AgentsData
with_turn_taken None s = s
with_turn_taken (Some turn) s = with_agent_changed turn.agent with_begun s

-- the next action, if there is one, runs
abbrev pub with_next_begun : AgentsData → AgentsData
with_next_begun s = with_turn_taken (next_turn s) s

abbrev pub first_in : Option AgentData → Option SentAction
first_in None = None
first_in (Some a) = slice_get a.waiting 0

-- the first action that waits for the agent of this number, and the one that it runs
abbrev pub first_waiting : ℕ → AgentsData → Option SentAction
first_waiting number s = first_in (agent_at number s)

abbrev pub agent_running_in : Option AgentData → Option SentAction
agent_running_in None = None
agent_running_in (Some a) = a.running

abbrev pub agent_running : ℕ → AgentsData → Option SentAction
agent_running number s = agent_running_in (agent_at number s)

-- Ending. The action that runs, if there is one, is over.

abbrev pub over_with : (AgentData → AgentData) → AgentData → AgentData
over_with f a = if runs_action a then f (record a { running = None }) else a

abbrev pub with_end : (AgentData → AgentData) → AgentsData → AgentsData
with_end f s = record s { agents = map (over_with f) s.agents }

-- its value is the agent's state
abbrev pub with_result : Datum → AgentsData → AgentsData
with_result d = with_end (λ a. record a { state = d })

-- it fails the agent: the state stays, and what waits goes on waiting
abbrev pub with_failure : Failure → AgentsData → AgentsData
with_failure f = with_end (λ a. record a { fault = Some f })

-- A failed agent gets a state, and goes on with what waits. Another stays as it is.

abbrev pub restarted : Datum → AgentData → AgentData
restarted d a = if is_some a.fault then record a { state = d; fault = None } else a

abbrev pub with_restart : ℕ → Datum → AgentsData → AgentsData
with_restart number d = with_agent_changed number (restarted d)

-- Awaiting. A session, or the bare requests where there is none, awaits what it sent itself.

abbrev pub is_sent_by : Option ℕ → Option SentAction → Bool
is_sent_by session None = false
is_sent_by session (Some x) = is_of session x.action

-- whether an action of this session waits or runs
abbrev pub has_action_of : Option ℕ → AgentData → Bool
has_action_of session a =
    list_any (λ x. is_of session x.action) a.waiting || is_sent_by session a.running

abbrev pub is_busy_for : Option ℕ → Option AgentData → Bool
is_busy_for session None = false
is_busy_for session (Some a) = has_action_of session a

-- A failed agent among those that are named is told first. Otherwise the await is met where none
-- of them has an action of the session.
abbrev pub awaited : List ℕ → Option ℕ → AgentsData → Await
awaited numbers session s =
    if list_any (λ n. is_failed n s) numbers then Await.Failed else
    if list_any (λ n. is_busy_for session (agent_at n s)) numbers then Await.Waits else Await.Met
