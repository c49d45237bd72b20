-- The atoms and agents of a tenant, and what its forms ask of them (the Clojure reference, Atoms, and
-- Agents and Asynchronous Actions).
use Rattle.std.specs.Prelude.{ℕ, List, [], ◌∷◌, length, Bool, true, false, Option, None, Some}
use Rattle.std.specs.Prelude.{◌++◌, is_some, unwrap_or, if◌then◌else◌, Result, Ok, Err}
use Rattle.std.specs.List.{list_any, list_all}
use Rattle.value_data.specs.Datum as datum
use Rattle.value_data.specs.Datum.{Datum}
use Rattle.repl_values.specs.Failure.{Failure, broken_rule}
use Rattle.repl_values.specs.declared.rule.Rule.{Rule}
use Rattle.repl_asks.specs.Sends.{TaskData, SendingData}
use Rattle.repl_asks.specs.Exchange as exchange
use Rattle.repl_asks.specs.Exchange.{AskData, AnswerData, PermissionData, granted, denied}
use Rattle.repl_asks.specs.Exchange.{Exchanged}
use Rattle.repl_replies.specs.Replies.{OriginData}
use Rattle.private_cells.specs.Atoms.{AtomsData, no_atoms, atom_value, with_atom, with_atom_value}
use Rattle.private_cells.specs.Atoms.{is_unchanged, with_try}
use Rattle.private_cells.specs.Actions.{ActionData}
use Rattle.private_cells.specs.Agents.{AgentsData, no_agents, agent_state, agent_fault, is_failed}
use Rattle.private_cells.specs.Agents.{with_agent, with_restart, with_send, ActionTurn, next_turn}
use Rattle.private_cells.specs.Agents.{SentAction, first_waiting, with_result, with_failure}
use Rattle.private_cells.specs.Agents.{awaited}
use Rattle.private_cells.specs.declared.awaiting.Await.{Await}

-- what its programs made; no other tenant has them
pub record CellsData : Type 0 where
  pub atoms : AtomsData
  pub agents : AgentsData

abbrev pub no_cells : CellsData
no_cells = record { atoms = no_atoms; agents = no_agents }

abbrev pub has_atom : ℕ → CellsData → Bool
has_atom n c = is_some (atom_value n c.atoms)

abbrev pub has_agent : ℕ → CellsData → Bool
has_agent n c = is_some (agent_state n c.agents)

abbrev pub has_receivers : List SendingData → CellsData → Bool
has_receivers sends c = list_all (λ s. has_agent s.agent c) sends

-- the atoms and agents that an ask names are there
abbrev pub has_named : AskData → CellsData → Bool
has_named (exchange.read_atom n) c = has_atom n c
has_named (exchange.set_atom n d) c = has_atom n c
has_named (exchange.try_atom n seen next) c = has_atom n c
has_named (exchange.read_agent n) c = has_agent n c
has_named (exchange.agent_fault n) c = has_agent n c
has_named (exchange.restart_agent n d) c = has_agent n c
has_named (exchange.send s) c = has_agent s.agent c
has_named (exchange.may_send s) c = has_agent s.agent c
has_named (exchange.await ns) c = list_all (λ n. has_agent n c) ns
has_named (exchange.commit intent) c = has_receivers intent.sends c
has_named _ c = true

-- Answers

abbrev pub fault_or_nil : Option Failure → Datum
fault_or_nil None = datum.nil
fault_or_nil (Some f) = datum.fault f.class f.text

-- only an agent that is failed is restarted
abbrev pub restart_permission : ℕ → AgentsData → PermissionData
restart_permission n agents =
    if is_failed n agents then granted else denied (broken_rule Rule.AgentHasFailed)

-- nothing is sent to an agent that is failed
abbrev pub send_permission : ℕ → AgentsData → PermissionData
send_permission n agents =
    if is_failed n agents then denied (broken_rule Rule.AgentHasNotFailed) else granted

-- an agent that is failed is not awaited
abbrev pub await_permission : List ℕ → AgentsData → PermissionData
await_permission ns agents =
    if list_any (λ n. is_failed n agents) ns then denied (broken_rule Rule.AgentHasNotFailed)
    else granted

-- A new atom's number is how many there were, and so is a new agent's. A set is answered by what
-- the atom then has, and a try by whether the atom had what was seen of it. What is asked of no
-- atom and no agent is answered by what was told.
abbrev pub cell_answer : AskData → CellsData → AnswerData → AnswerData
cell_answer (exchange.new_atom d) c told = exchange.value (datum.atom (length c.atoms.values))
cell_answer (exchange.read_atom n) c told =
    exchange.value (unwrap_or (atom_value n c.atoms) datum.nil)
cell_answer (exchange.set_atom n d) c told = exchange.value d
cell_answer (exchange.try_atom n seen next) c told =
    exchange.value (datum.boolean (is_unchanged n seen c.atoms))
cell_answer (exchange.new_agent d) c told = exchange.value (datum.agent (length c.agents.agents))
cell_answer (exchange.read_agent n) c told =
    exchange.value (unwrap_or (agent_state n c.agents) datum.nil)
cell_answer (exchange.agent_fault n) c told =
    exchange.value (fault_or_nil (agent_fault n c.agents))
cell_answer (exchange.restart_agent n d) c told =
    exchange.permission (restart_permission n c.agents)
cell_answer (exchange.send s) c told = exchange.permission (send_permission s.agent c.agents)
cell_answer (exchange.may_send s) c told = exchange.permission (send_permission s.agent c.agents)
cell_answer (exchange.await ns) c told = exchange.permission (await_permission ns c.agents)
cell_answer _ c told = told

abbrev pub is_unmet : Await → Bool
is_unmet Await.Waits = true
is_unmet _ = false

-- whether the ask is an await that is not met: what the session sent waits or runs
abbrev pub must_wait : Option ℕ → AskData → CellsData → Bool
must_wait session (exchange.await ns) c = is_unmet (awaited ns session c.agents)
must_wait session _ c = false

-- Changes

abbrev pub with_atoms : AtomsData → CellsData → CellsData
with_atoms atoms c = record c { atoms = atoms }

abbrev pub with_agents : AgentsData → CellsData → CellsData
with_agents agents c = record c { agents = agents }

-- who asks: what the replies to its request carry, and the number of its session, if it has one
pub record SenderData : Type 0 where
  pub origin : OriginData
  pub session : Option ℕ

abbrev pub action_from : SenderData → TaskData → ActionData
action_from sender task =
    record { task = task; origin = sender.origin; session = sender.session }

-- what is sent waits for its agents, in order
abbrev pub with_sends : SenderData → List SendingData → AgentsData → AgentsData
with_sends sender [] agents = agents
with_sends sender (s ∷ ss) agents =
    with_sends sender ss (with_send s.agent (action_from sender s.task) agents)

-- what was asked for is granted, or was committed
abbrev pub is_yes : AnswerData → Bool
is_yes (exchange.permission granted) = true
is_yes (exchange.verdict exchange.committed) = true
is_yes _ = false

abbrev pub with_sends_if : Bool → SenderData → List SendingData → CellsData → CellsData
with_sends_if true sender sends c = with_agents (with_sends sender sends c.agents) c
with_sends_if false sender sends c = c

abbrev pub cells_after : SenderData → AskData → AnswerData → CellsData → CellsData
cells_after sender (exchange.new_atom d) answer c = with_atoms (with_atom d c.atoms) c
cells_after sender (exchange.set_atom n d) answer c = with_atoms (with_atom_value n d c.atoms) c
cells_after sender (exchange.try_atom n seen next) answer c =
    with_atoms (with_try n seen next c.atoms) c
cells_after sender (exchange.new_agent d) answer c = with_agents (with_agent d c.agents) c
cells_after sender (exchange.restart_agent n d) answer c = with_agents (with_restart n d c.agents) c
cells_after sender (exchange.send s) answer c = with_sends_if (is_yes answer) sender (s ∷ []) c
cells_after sender (exchange.commit intent) answer c =
    with_sends_if (is_yes answer) sender intent.sends c
cells_after sender _ answer c = c

-- Actions

-- the action that begins next, and the state of its agent
pub record NextAction : Type 0 where
  pub state : Datum
  pub action : ActionData

abbrev pub next_from : Option Datum → Option SentAction → Option NextAction
next_from (Some d) (Some x) = Some (record { state = d; action = x.action })
next_from state sent = None

abbrev pub next_action_by : AgentsData → Option ActionTurn → Option NextAction
next_action_by agents None = None
next_action_by agents (Some turn) =
    next_from (agent_state turn.agent agents) (first_waiting turn.agent agents)

abbrev pub next_action : AgentsData → Option NextAction
next_action agents = next_action_by agents (next_turn agents)

-- whether an attempt runs behind this
abbrev pub stays_inside : Bool → AskData → AnswerData → Bool
stays_inside inside exchange.begin answer = true
stays_inside inside (exchange.commit intent) answer = false
stays_inside inside (exchange.read name) (exchange.reading exchange.retry) = false
stays_inside inside ask answer = inside

-- what an action may send, asked for outside of attempts; what an attempt sends its commit names
abbrev pub sends_by : Bool → AskData → AnswerData → List SendingData
sends_by false (exchange.may_send s) (exchange.permission granted) = s ∷ []
sends_by inside ask answer = []

abbrev pub action_sends : Bool → List Exchanged → List SendingData
action_sends inside [] = []
action_sends inside (x ∷ xs) =
    sends_by inside x.ask x.answer ++ action_sends (stays_inside inside x.ask x.answer) xs

-- The value of an action is its agent's state, and what it sends waits for its agents. A fault fails
-- its agent, and what it might send outside of attempts is dropped.
abbrev pub agents_ended
    : SenderData → List Exchanged → Result Datum Failure → AgentsData → AgentsData
agents_ended sender trace (Ok d) agents =
    with_sends sender (action_sends false trace) (with_result d agents)
agents_ended sender trace (Err f) agents = with_failure f agents
