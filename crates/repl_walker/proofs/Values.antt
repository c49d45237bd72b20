-- What an attempt did stays, whatever more it is answered.
use Rattle.std.proofs.Common.{◌≡◌, ◌≤◌, ℕ, ◌+◌, List, [], ◌∷◌, ◌++◌, length, filter_map, nat_lt, Bool}
use Rattle.std.proofs.Common.{true, false, if◌then◌else◌, refl, sym, ap, ◌∙◌, append_assoc}
use Rattle.std.proofs.Common.{append-nil, arith}
use Rattle.std.proofs.lemmas.Bool.Decides.{nat_tests}
use Rattle.std.proofs.lemmas.List.{length-append}
use Rattle.std.proofs.lemmas.List.Elements.{filter_map-append}
use Rattle.core_scalars.specs.Limits.{most_text}
use Rattle.repl_asks.specs.Transactions.{ChangeData}
use Rattle.repl_asks.specs.Exchange.{AnswerData}
use Rattle.repl_asks.specs.Accesses.{AccessData, value_accessed}
use Rattle.evaluation_rules.specs.Doing.{Doing, left, asking, printing, looking, noting, trying}
use Rattle.repl_walker.specs.Standing.{Standing, attempt_of, standing_after}
use Rattle.repl_walker.specs.Values.{values_after}

-- the one list begins as the other
abbrev pub Begins : List AccessData → List AccessData → Type 0
Begins xs ys = (rest : List AccessData) × (xs ≡ ys ++ rest)

pub same : (xs : List AccessData) → Begins xs xs
same xs = ([], sym (append-nil xs))

-- the accesses so far are the first
pub grows : (text : List ℕ) (ops : List AccessData) (d : Doing) (answers : List AnswerData)
    → Begins (standing_after text ops d answers).accesses ops
grows text ops (left exit kept) answers = same ops
grows text ops (asking ask behind) [] = same ops
grows text ops (asking ask behind) (answer ∷ answers) = grows text ops (behind answer) answers
grows text ops (printing more kept d) answers =
    at (nat_lt most_text (length text + length more)) (grows (text ++ more) ops d answers)
  where
    here : Standing
    here = record { text = text; accesses = ops; rest = printing more kept d }

    further : Standing
    further = standing_after (text ++ more) ops d answers

    at : (b : Bool) → Begins further.accesses ops
        → Begins (if b then here else further).accesses ops
    at true on = same ops
    at false on = on
grows text ops (looking behind) answers = grows text ops (behind (attempt_of ops)) answers
grows text ops (noting op d) answers =
    let more = grows text (ops ++ op ∷ []) d answers in
    (op ∷ more.0, more.1 ∙ append_assoc ops (op ∷ []) more.0)
grows text ops (trying body d) answers = grows text ops d answers

stays
    : (less before : List ℕ) (ops : List AccessData) (d : Doing) (answers more : List AnswerData)
    → length less ≤ length before
    → Begins (standing_after less ops d (answers ++ more)).accesses
    (standing_after before ops d answers).accesses
stays less before ops (left exit kept) answers more few = same ops
stays less before ops (asking ask behind) [] more few = grows less ops (asking ask behind) more
stays less before ops (asking ask behind) (answer ∷ answers) more few =
    stays less before ops (behind answer) answers more few
stays less before ops (printing text kept d) answers more few =
    at (nat_lt most_text (length before + length text)) refl
    (stays (less ++ text) (before ++ text) ops d answers more
    (omega (arith, few, length-append less text, length-append before text)))
  where
    all : Standing
    all = standing_after less ops (printing text kept d) (answers ++ more)

    here : Standing
    here = record { text = before; accesses = ops; rest = printing text kept d }

    further : Standing
    further = standing_after (less ++ text) ops d (answers ++ more)

    fewer : Standing
    fewer = standing_after (before ++ text) ops d answers

    at : (b : Bool) → nat_lt most_text (length before + length text) ≡ b
        → Begins further.accesses fewer.accesses
        → Begins all.accesses (if b then here else fewer).accesses
    at true passes on = grows less ops (printing text kept d) (answers ++ more)
    at false fits on =
        let too : nat_lt most_text (length less + length text) ≡ false =
        grind (arith, nat_tests, fits, few) in
        rw too on
stays less before ops (looking behind) answers more few =
    stays less before ops (behind (attempt_of ops)) answers more few
stays less before ops (noting op d) answers more few =
    stays less before (ops ++ op ∷ []) d answers more few
stays less before ops (trying body d) answers more few = stays less before ops d answers more few

pub values-stay
    : (body : Doing) (before less : List ℕ) (answers more : List AnswerData)
    → length less ≤ length before
    → (rest : List ChangeData)
    × (values_after less body (answers ++ more) ≡ values_after before body answers ++ rest)
values-stay body before less answers more few =
    let it = stays less before [] body answers more few in
    let first = (standing_after before [] body answers).accesses in (
      filter_map value_accessed it.0,
      ap (filter_map value_accessed) it.1 ∙ filter_map-append value_accessed first it.0,
    )
