-- What a body does where a read is to be made again.
use Rattle.std.specs.Prelude.{◌≡◌, List, ◌∷◌, ◌++◌}
use Rattle.repl_asks.specs.Transactions.{RefNameData}
use Rattle.repl_asks.specs.Exchange.{AnswerData, read, retry, reading_in}
use Rattle.evaluation_rules.specs.Doing.{Kept, Doing, left, retried, asking}
use Rattle.repl_walker.specs.Standing.{Standing}

-- Where it stands at a read, and is told to make it again, it is left for another attempt, whatever
-- more it is told. What it printed and did stays.
abbrev pub RetriesLeave : (List AnswerData → Standing) → Type 0
RetriesLeave body =
    (answers : List AnswerData) (name : RefNameData) (goes_on : AnswerData → Doing)
    (answer : AnswerData) (more : List AnswerData)
    → (body answers).rest ≡ asking (read name) goes_on → reading_in answer ≡ retry
    → (kept : Kept)
    × (body (answers ++ answer ∷ more) ≡ record (body answers) { rest = left retried kept })
