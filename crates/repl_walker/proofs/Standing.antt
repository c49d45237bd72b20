-- More answers lead a body on from where it stands.
use Rattle.std.proofs.Common.{◌≡◌, ℕ, ◌+◌, List, [], ◌∷◌, ◌++◌, length, nat_lt, Bool}
use Rattle.std.proofs.Common.{true, false, if◌then◌else◌, refl, sym, ap, ◌∙◌}
use Rattle.core_scalars.specs.Limits.{most_text}
use Rattle.repl_asks.specs.Exchange.{AnswerData}
use Rattle.repl_asks.specs.Accesses.{AccessData}
use Rattle.evaluation_rules.specs.Doing.{Kept, Exit, Doing, left, asking, printing, looking, noting}
use Rattle.evaluation_rules.specs.Doing.{trying}
use Rattle.repl_walker.specs.Standing.{Standing, attempt_of, standing_after, on_from}

pub goes-on
    : (text : List ℕ) (ops : List AccessData) (d : Doing) (answers more : List AnswerData)
    → standing_after text ops d (answers ++ more) ≡ on_from (standing_after text ops d answers) more
goes-on text ops (left exit kept) answers more = refl
goes-on text ops (asking ask behind) [] more = refl
goes-on text ops (asking ask behind) (answer ∷ answers) more =
    goes-on text ops (behind answer) answers more
goes-on text ops (printing printed kept d) answers more =
    at (nat_lt most_text (length text + length printed)) refl
    (goes-on (text ++ printed) ops d answers more)
  where
    here : Standing
    here = record { text = text; accesses = ops; rest = printing printed kept d }

    further : List AnswerData → Standing
    further = standing_after (text ++ printed) ops d

    at : (b : Bool) → nat_lt most_text (length text + length printed) ≡ b
        → further (answers ++ more) ≡ on_from (further answers) more
        → (if b then here else further (answers ++ more))
        ≡ on_from (if b then here else further answers) more
    at true passes on = sym (ap (λ c. if c then here else further more) passes)
    at false fits on = on
goes-on text ops (looking behind) answers more =
    goes-on text ops (behind (attempt_of ops)) answers more
goes-on text ops (noting op d) answers more = goes-on text (ops ++ op ∷ []) d answers more
goes-on text ops (trying body d) answers more = goes-on text ops d answers more

pub stays-left
    : (text : List ℕ) (ops : List AccessData) (d : Doing) (answers more : List AnswerData)
    (exit : Exit) (kept : Kept) → (standing_after text ops d answers).rest ≡ left exit kept
    → standing_after text ops d (answers ++ more) ≡ standing_after text ops d answers
stays-left text ops d answers more exit kept is =
    let s = standing_after text ops d answers in
    let at : Doing → Standing = λ rest. record { text = s.text; accesses = s.accesses; rest = rest } in
    goes-on text ops d answers more ∙ ap (λ rest. standing_after s.text s.accesses rest more) is
    ∙ ap at (sym is)
