-- Where a body stands at a read that is to be made again, it is left.
use Rattle.std.proofs.Common.{ℕ, ◌+◌, List, [], ◌∷◌, ◌++◌, length, nat_lt, Bool, true, false}
use Rattle.std.proofs.Common.{if◌then◌else◌, subst, ap, ◌∙◌}
use Rattle.core_scalars.specs.Limits.{most_text}
use Rattle.value_data.specs.Datum.{Datum, nil}
use Rattle.repl_asks.specs.Exchange.{AnswerData, ReadingData, read, retry}
use Rattle.repl_asks.specs.Accesses.{AccessData}
use Rattle.evaluation_rules.specs.Doing.{Kept, Doing, left, asking, printing, looking, noting}
use Rattle.evaluation_rules.specs.Doing.{trying}
use Rattle.evaluation_rules.specs.Places.{PlaceData}
use Rattle.evaluation_rules.specs.Rows.{value_of_last}
use Rattle.evaluation_rules.specs.Transactions.{body_of}
use Rattle.evaluation_rules.specs.Evaluation.{value_at}
use Rattle.repl_walker.specs.Standing.{Standing, attempt_of, standing_after}
use Rattle.repl_walker.specs.Retries.{RetriesLeave}
use Rattle.repl_walker.proofs.Standing.{goes-on}
use Rattle.repl_walker.proofs.Retries.{Leaves, LeavesOn, body-leaves}

stands
    : (text : List ℕ) (ops : List AccessData) (d : Doing) (answers : List AnswerData)
    → Leaves d → Leaves (standing_after text ops d answers).rest
stands text ops (left exit kept) answers h = tt
stands text ops (asking ask behind) [] h = h
stands text ops (asking ask behind) (answer ∷ answers) h =
    stands text ops (behind answer) answers (h answer).1
stands text ops (printing more kept d) answers h =
    at (nat_lt most_text (length text + length more)) (stands (text ++ more) ops d answers h)
  where
    here : Standing
    here = record { text = text; accesses = ops; rest = printing more kept d }

    further : Standing
    further = standing_after (text ++ more) ops d answers

    at : (b : Bool) → Leaves further.rest → Leaves (if b then here else further).rest
    at true on = h
    at false on = on
stands text ops (looking behind) answers h =
    stands text ops (behind (attempt_of ops)) answers (h (attempt_of ops))
stands text ops (noting op d) answers h = stands text (ops ++ op ∷ []) d answers h
stands text ops (trying body d) answers h = stands text ops d answers h

left-again : (text : List ℕ) (ops : List AccessData) (d : Doing) → Leaves d
    → RetriesLeave (standing_after text ops d)
left-again text ops d h = λ answers name goes_on answer more is again.
    let s = standing_after text ops d answers in
    let at : Leaves (asking (read name) goes_on) =
    subst (λ (r : Doing). Leaves r) is (stands text ops d answers h) in
    let out : LeavesOn retry (goes_on answer) =
    subst (λ (r : ReadingData). LeavesOn r (goes_on answer)) again (at answer).0 in (
      out.0,
      goes-on text ops d answers (answer ∷ more)
          ∙ ap (λ (r : Doing). standing_after s.text s.accesses r (answer ∷ more)) is
          ∙ ap (λ (r : Doing). standing_after s.text s.accesses r more) out.1,
    )

pub retries-leave
    : (room : ℕ) (p : PlaceData) (forms : List Datum) (begun : Kept) (text : List ℕ)
    (ops : List AccessData)
    → RetriesLeave (standing_after text ops (body_of (value_of_last (value_at room p) nil forms) begun))
retries-leave room p forms begun text ops =
    left-again text ops (body_of (value_of_last (value_at room p) nil forms) begun)
    (body-leaves room p forms begun)
