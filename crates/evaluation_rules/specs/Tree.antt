-- What others see of a part of an evaluation that is the whole: its asks, and how it ends.
use Rattle.std.specs.Prelude.{ℕ, ◌+◌, List, ◌++◌, Result, Ok, Err, length, nat_lt}
use Rattle.std.specs.Prelude.{if◌then◌else◌}
use Rattle.value_data.specs.Datum.{Datum}
use Rattle.core_scalars.specs.Limits.{most_text}
use Rattle.repl_values.specs.Failure as failures
use Rattle.repl_values.specs.Failure.{Failure}
use Rattle.repl_values.specs.declared.rule.Rule.{Rule}
use Rattle.repl_asks.specs.InteractionTree.{InteractionTree, finished, asks}
use Rattle.repl_asks.specs.Accesses.{AttemptData, noted, nothing_noted}
use Rattle.evaluation_rules.specs.Doing.{Kept, Exit, gave, failed, retried, Doing, left, asking}
use Rattle.evaluation_rules.specs.Doing.{printing, looking, noting, trying}

-- An attempt has this so far and goes on; `after` says what is done when it is left. What it does
-- stays noted.
abbrev pub with_attempt : (Exit → Kept → AttemptData → Doing) → AttemptData → Doing → Doing
with_attempt after a (left exit kept) = after exit kept a
with_attempt after a (asking ask behind) =
    asking ask (λ answer. with_attempt after a (behind answer))
with_attempt after a (printing text kept d) = printing text kept (with_attempt after a d)
with_attempt after a (looking behind) = with_attempt after a (behind a)
with_attempt after a (noting op d) = noting op (with_attempt after (noted op a) d)
with_attempt after a (trying body d) = trying body (with_attempt after a d)

abbrev pub ends : Result Datum Failure → List ℕ → Kept → InteractionTree
ends r text kept = finished (record { result = r; text = text; namespace = kept.namespace })

-- outside of transactions there is no attempt to make again
abbrev pub exit_tree : Exit → List ℕ → Kept → InteractionTree
exit_tree (gave d) text kept = ends (Ok d) text kept
exit_tree (failed f) text kept = ends (Err f) text kept
exit_tree retried text kept = ends (Err (failures.broken_rule Rule.AttemptsAreLimited)) text kept

-- The whole, where `before` was printed so far. Text that would pass the limit is not printed at
-- all. Attempts and their accesses are not written: others do not see them.
abbrev pub written_tree : List ℕ → Doing → InteractionTree
written_tree before (left exit kept) = exit_tree exit before kept
written_tree before (asking ask behind) = asks ask (λ answer. written_tree before (behind answer))
written_tree before (printing text kept d) =
    if nat_lt most_text (length before + length text)
    then ends (Err failures.output_too_long) before kept
    else written_tree (before ++ text) d
written_tree before (looking behind) = written_tree before (behind nothing_noted)
written_tree before (noting access d) = written_tree before d
written_tree before (trying body d) = written_tree before d
