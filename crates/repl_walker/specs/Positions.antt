-- Where an evaluation stands, for the proof that it ends. No promise speaks of it but that each
-- answer leads on.
use Rattle.std.specs.Prelude.{◌≡◌, ℕ, ◌+◌, ◌*◌, ◌<◌, ◌≤◌, ◌⊎◌, Bool, true, false, if◌then◌else◌, ⊤}
use Rattle.walker_state.specs.Position.{Position, outer_calls, outer_size, IsLater}
use Rattle.repl_walker.specs.Steps.{position_of}
use Rattle.repl_walker.specs.declared.waiting.Walk.{Walk}
use Rattle.repl_walker.specs.declared.waiting.Progress.{Progress}

abbrev pub walk_position : Walk → Position
walk_position w = position_of w.waiting

abbrev pub IsLaterProgress : Progress → Position → Type 0
IsLaterProgress (Progress.Asks w) old = IsLater (walk_position w) old
IsLaterProgress (Progress.Ends e) old = ⊤

-- the most calls that are left once a transaction is over, none behind the end
abbrev pub most_calls : Progress → ℕ
most_calls (Progress.Asks w) = outer_calls (walk_position w)
most_calls (Progress.Ends e) = 0

-- Over somebody who answers

-- the attempts that are left, and then the calls
unfoldable pub rank : Position → ℕ
rank p = p.transaction.turn * 4294967296 + p.calls

abbrev pub OuterIn : Bool → Position → Position → Type 0
OuterIn true new old = outer_size new ≤ outer_size old
OuterIn false new old = (outer_calls new < outer_calls old) ⊎ (outer_size new < outer_size old)

-- as seen from outside of transactions
unfoldable pub IsOuter : Position → Position → Type 0
IsOuter new old = (outer_calls new ≤ outer_calls old) × OuterIn new.transaction.runs new old

abbrev pub IsOuterProgress : Progress → Position → Type 0
IsOuterProgress (Progress.Asks w) old = IsOuter (walk_position w) old
IsOuterProgress (Progress.Ends e) old = ⊤

-- within a transaction, at a later attempt or with fewer calls
abbrev pub IsTurned : Progress → Position → Type 0
IsTurned (Progress.Asks w) old = (walk_position w).transaction.runs ≡ true
    → rank (walk_position w) < rank old
IsTurned (Progress.Ends e) old = ⊤

-- outside of transactions
abbrev pub IsSettled : Progress → Type 0
IsSettled (Progress.Asks w) = (walk_position w).transaction.runs ≡ false
IsSettled (Progress.Ends e) = ⊤

abbrev pub HasFewerCalls : Progress → Position → Type 0
HasFewerCalls (Progress.Asks w) old = outer_calls (walk_position w) < outer_calls old
HasFewerCalls (Progress.Ends e) old = ⊤

-- what falls with each attempt that is left, and with each call
abbrev pub rank_left : Progress → ℕ
rank_left (Progress.Asks w) = if (walk_position w).transaction.runs then 1 + rank (walk_position w)
    else 0
rank_left (Progress.Ends e) = 0

abbrev pub calls_left : Progress → ℕ
calls_left (Progress.Asks w) = 1 + outer_calls (walk_position w)
calls_left (Progress.Ends e) = 0
