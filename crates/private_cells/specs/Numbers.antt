-- The numbers of sendings.
use Rattle.std.specs.Prelude.{ℕ, ◌<◌, List, [], ◌∷◌, ⊤}
use Rattle.private_cells.specs.Agents.{SentAction, AgentsData, waiting_for}

-- the number that comes first, or this one where there is none
abbrev pub number_of_first : ℕ → List SentAction → ℕ
number_of_first sent [] = sent
number_of_first sent (x ∷ xs) = x.number

-- the numbers rise, from the first to the last, and are below this one
abbrev pub RiseBelow : ℕ → List SentAction → Type 0
RiseBelow sent [] = ⊤
RiseBelow sent (x ∷ xs) = (x.number < number_of_first sent xs) × RiseBelow sent xs

-- for each agent actions wait in the order of their sending, none under a number yet to come
abbrev pub AreNumbered : AgentsData → Type 0
AreNumbered s = (n : ℕ) → RiseBelow s.sent (waiting_for n s)
