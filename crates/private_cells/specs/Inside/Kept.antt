-- What the struct of the agents keeps.
use Rattle.std.specs.Prelude.{◌≡◌, ℕ, ◌+◌, ◌==◌, ◌≤◌, List, [], ◌∷◌, length, Bool, false, cond}
use Rattle.std.specs.Prelude.{Option, Some, None, slice_get}
use Rattle.private_cells.specs.Actions.{is_of}
use Rattle.private_cells.specs.Agents.{SentAction, AgentData, runs_action}
pub use Rattle.private_cells.specs.Agents.{waiting_in}

-- what waits for the agent at a place
abbrev pub waiting_at : ℕ → List AgentData → List SentAction
waiting_at place agents = waiting_in (slice_get agents place)

-- how many of these came from a session
abbrev pub count_from : Option ℕ → List SentAction → ℕ
count_from session [] = 0
count_from session (x ∷ xs) = cond (is_of session x.action) 1 0 + count_from session xs

abbrev pub runs_in : Option AgentData → Bool
runs_in None = false
runs_in (Some a) = runs_action a

-- whether the agent at a place runs an action
abbrev pub runs_at : ℕ → List AgentData → Bool
runs_at place agents = runs_in (slice_get agents place)

abbrev pub is_place : Option ℕ → ℕ → Bool
is_place None place = false
is_place (Some n) place = n == place

-- the agent at this place runs an action, if any does
abbrev pub RunsAlone : Option ℕ → List AgentData → Type 0
RunsAlone n agents = (place : ℕ) → runs_at place agents ≡ is_place n place

-- for no agent wait more than so many
abbrev pub AreShort : ℕ → List AgentData → Type 0
AreShort sent agents = (place : ℕ) → length (waiting_at place agents) ≤ sent
