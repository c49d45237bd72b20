-- The turns of agents that may begin an action, and how a heap keeps them.
use Rattle.std.specs.Prelude.{◌≡◌, ℕ, suc, ◌+◌, ◌≤◌, List, [], ◌∷◌, false}
use Rattle.std.specs.Prelude.{Option, Some, None, option_map, sum_by, slice_get}
use Rattle.std.specs.List.{AllByRecursion}
use Rattle.std.specs.Ordering.{nat_cmp, ordering_then, is_lt}
use Rattle.std.specs.declared.cmp.Ordering.{Ordering}
use Rattle.std.specs.declared.cmp.Reverse.{Reverse}
use Rattle.repl_values.specs.Failure.{Failure}
use Rattle.private_cells.specs.Agents.{SentAction, AgentData, ActionTurn, turn_by}

abbrev pub turn_at : ℕ → ℕ → ActionTurn
turn_at place number = record { number = number; agent = place }

abbrev pub open_by : ℕ → Option SentAction → Option Failure → List SentAction → Option ActionTurn
open_by place (Some x) fault xs = None
open_by place None fault xs = turn_by place fault xs

-- the turn of the agent at a place, unless it is failed, or runs an action, or nothing waits
abbrev pub open_turn : ℕ → AgentData → Option ActionTurn
open_turn place a = open_by place a.running a.fault a.waiting

abbrev pub open_turn_of : ℕ → Option AgentData → Option ActionTurn
open_turn_of place None = None
open_turn_of place (Some a) = open_turn place a

abbrev pub open_at : ℕ → List AgentData → Option ActionTurn
open_at place agents = open_turn_of place (slice_get agents place)

-- the session from which the first action came
abbrev pub first_session : List SentAction → Option (Option ℕ)
first_session [] = None
first_session (x ∷ xs) = Some x.action.session

abbrev pub turn_weight : (ActionTurn → ℕ) → Option ActionTurn → ℕ
turn_weight f None = 0
turn_weight f (Some turn) = f turn

-- The change of an agent, at whatever place, opens the turn of this number, or none. It closes
-- none.
abbrev pub Opens : Option ℕ → AgentData → AgentData → Type 0
Opens number old new = (place : ℕ) (f : ActionTurn → ℕ) → turn_weight f (open_turn place new)
    ≡ turn_weight f (option_map (turn_at place) number) + turn_weight f (open_turn place old)

-- what f gives for the turns of all agents that lie at places from this one on, in all
abbrev pub open_sum : (ActionTurn → ℕ) → ℕ → List AgentData → ℕ
open_sum f place [] = 0
open_sum f place (a ∷ agents) = turn_weight f (open_turn place a) + open_sum f (suc place) agents

-- a turn as the heap has it, which gives its greatest first
abbrev pub HeapTurn : Type 0
HeapTurn = Reverse (ℕ × ℕ)

abbrev pub turn_in : HeapTurn → ActionTurn
turn_in e = record { number = e.0.0; agent = e.0.1 }

-- by the number, and then by the agent, the greatest first
abbrev pub least_last : HeapTurn → HeapTurn → Ordering
least_last x y = ordering_then (nat_cmp y.0.0 x.0.0) (nat_cmp y.0.1 x.0.1)

abbrev pub heap_sum : (ActionTurn → ℕ) → List HeapTurn → ℕ
heap_sum f es = sum_by (λ e. f (turn_in e)) es

-- no entry comes before this one
abbrev pub IsFirst : ℕ × ℕ → List HeapTurn → Type 0
IsFirst t es =
    AllByRecursion (λ e. is_lt (ordering_then (nat_cmp e.0.0 t.0) (nat_cmp e.0.1 t.1)) ≡ false) es

-- f of a turn that stands in the heap is part of what it gives for all
abbrev pub IsThere : ℕ × ℕ → List HeapTurn → Type 0
IsThere t es = (f : ActionTurn → ℕ) → f (turn_at t.1 t.0) ≤ heap_sum f es

-- The heap has the turns that there are, and no others: each sum over them is the same.
abbrev pub HasTurns : List HeapTurn → List AgentData → Type 0
HasTurns es agents = (f : ActionTurn → ℕ) → heap_sum f es ≡ open_sum f 0 agents
