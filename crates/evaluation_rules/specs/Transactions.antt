-- Transactions (the Clojure reference, Refs and Transactions; `dosync` and `io!` of clojure.core).
use Rattle.std.specs.Prelude.{ℕ, zero, suc, Bool, true, false, if◌then◌else◌}
use Rattle.value_data.specs.Datum.{Datum}
use Rattle.repl_values.specs.Failure.{broken_rule}
use Rattle.repl_values.specs.declared.rule.Rule.{Rule}
use Rattle.repl_asks.specs.Exchange.{begin, commit, VerdictData, committed, conflict, faulted}
use Rattle.repl_asks.specs.Exchange.{verdict_in}
use Rattle.repl_asks.specs.Accesses.{AttemptData, intent_of, nothing_noted}
use Rattle.evaluation_rules.specs.Doing.{Kept, Exit, gave, failed, retried, Doing, left, asking}
use Rattle.evaluation_rules.specs.Doing.{trying, Part}
use Rattle.evaluation_rules.specs.Tree.{with_attempt}

abbrev pub with_running : Bool → Kept → Kept
with_running b kept = record kept { running = b }

-- An attempt's body, by itself: what stands around it is done where it is left.
abbrev pub body_of : Part Datum → Kept → Doing
body_of body kept = body (λ d after. left (gave d) after) (with_running true kept)

-- what comes of a commit
abbrev pub after_verdict : Doing → Datum → VerdictData → Part Datum
after_verdict again d committed next kept = next d kept
after_verdict again d conflict next kept = again
after_verdict again d (faulted f) next kept = left (failed f) kept

-- What is done when an attempt's body is left: what it wants is to be committed, or another attempt
-- is made.
abbrev pub after_body : (Kept → Doing) → (Datum → Kept → Doing) → Exit → Kept → AttemptData
    → Doing
after_body again next (gave d) kept a =
    asking (commit (intent_of a)) (λ answer.
    after_verdict (again kept) d (verdict_in answer) next (with_running false kept))
after_body again next (failed f) kept a = left (failed f) kept
after_body again next retried kept a = again kept

-- Up to so many attempts. Each begins as the first did, and notes the body that it tries; what was
-- printed stays. When none is left, the namespace is that of the last.
abbrev pub attempts : ℕ → Doing → (Datum → Kept → Doing) → Kept → Doing
attempts zero body next last = left (failed (broken_rule Rule.AttemptsAreLimited)) last
attempts (suc n) body next last = asking begin
    (λ answer. trying body
    (with_attempt (after_body (attempts n body next) next) nothing_noted body))

-- a transaction within another joins it
abbrev pub transacted_value : Bool → Part Datum → Part Datum
transacted_value true body next kept = body next kept
transacted_value false body next kept = attempts kept.retries (body_of body kept) next kept

unfoldable pub transaction_value : Part Datum → Part Datum
transaction_value body next kept = transacted_value kept.running body next kept

-- what may not be done twice does not stand in a transaction
unfoldable pub effects_value : Part Datum → Part Datum
effects_value body next kept = if kept.running
    then left (failed (broken_rule Rule.NoIoInTransaction)) kept else body next kept
