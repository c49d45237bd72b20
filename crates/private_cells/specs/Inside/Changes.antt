-- Changes of one agent among all.
use Rattle.std.specs.Prelude.{◌≡◌, ℕ, ◌+◌, List, ◌++◌, Option, Some, None, option_map}
use Rattle.value_data.specs.Datum.{Datum}
use Rattle.repl_values.specs.Failure.{Failure}
use Rattle.private_cells.specs.Agents.{SentAction, AgentData, ActionTurn}
use Rattle.private_cells.specs.Inside.Turns.{turn_at, turn_weight, open_sum}

-- these wait behind the others
abbrev pub with_these : List SentAction → AgentData → AgentData
with_these xs a = record a { waiting = a.waiting ++ xs }

-- the action that runs is over, and leaves a state or a fault
abbrev pub with_agent_state : Datum → AgentData → AgentData
with_agent_state d a = record a { state = d; running = None }

abbrev pub with_fault : Failure → AgentData → AgentData
with_fault f a = record a { fault = Some f; running = None }

-- The agent at this place gets a turn of this number, or none does. None is lost.
abbrev pub OpensAt : ℕ → Option ℕ → List AgentData → List AgentData → Type 0
OpensAt place number old new = (f : ActionTurn → ℕ) → open_sum f 0 new
    ≡ turn_weight f (option_map (turn_at place) number) + open_sum f 0 old
