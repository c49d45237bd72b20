-- What an attempt at a transaction saw by the time that it was given some answers.
use Rattle.std.specs.Prelude.{◌≡◌, ◌≤◌, ℕ, List, [], ◌++◌, length, filter_map}
use Rattle.repl_asks.specs.Transactions.{ChangeData}
use Rattle.repl_asks.specs.Exchange.{AnswerData}
use Rattle.repl_asks.specs.Accesses.{value_accessed}
use Rattle.evaluation_rules.specs.Doing.{Doing}
use Rattle.repl_walker.specs.Standing.{standing_after}

-- The values that it saw, in order, each with its ref: those of its accesses up to where its body
-- stands. This text was printed before it.
abbrev pub values_after : List ℕ → Doing → List AnswerData → List ChangeData
values_after before body answers =
    filter_map value_accessed (standing_after before [] body answers).accesses

-- With more answers, or with less text printed before, an attempt's body has the same values first.
abbrev pub ValuesStay : Type 0
ValuesStay =
    (body : Doing) (before less : List ℕ) (answers more : List AnswerData)
    → length less ≤ length before
    → (rest : List ChangeData)
    × (values_after less body (answers ++ more) ≡ values_after before body answers ++ rest)
