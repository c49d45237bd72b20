-- A `dosync` that stands in no other is attempts at its body.
use Rattle.std.proofs.Common.{◌∙◌, Bool, sym, ap, if◌then◌else◌}
use Rattle.value_data.specs.Datum.{nil}
use Rattle.value_data.specs.Listed.{listed}
use Rattle.repl_values.specs.Failure.{broken_rule}
use Rattle.repl_values.specs.declared.rule.Rule.{Rule}
use Rattle.evaluation_rules.specs.Doing.{failed, left}
use Rattle.evaluation_rules.specs.SharedText.{is_shared_text, outside_shared_text}
use Rattle.evaluation_rules.specs.Rows.{value_of_last}
use Rattle.evaluation_rules.specs.Transactions.{body_of, attempts, transacted_value}
use Rattle.evaluation_rules.specs.Transactions.{transaction_value}
use Rattle.evaluation_rules.specs.Evaluation.{value_at}
use Rattle.repl_core.specs.DosyncSettings.{DosyncsAreAttempts}

pub dosyncs-are-attempts : DosyncsAreAttempts
unfolding transaction_value outside_shared_text
dosyncs-are-attempts d ds next form outside forms =
    ap (λ o. if is_shared_text o
    then left (failed (broken_rule Rule.SharedTextDefinesAlone)) d.kept
    else transacted_value d.kept.running (value_of_last (value_at d.room d.place) nil (listed ds)) next
    d.kept) form
    ∙ ap (λ (b : Bool). transacted_value b (value_of_last (value_at d.room d.place) nil (listed ds)) next
    d.kept) outside
    ∙ ap (λ fs. attempts d.kept.retries
    (body_of (value_of_last (value_at d.room d.place) nil fs) d.kept) next d.kept) (sym forms)
