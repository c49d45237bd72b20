-- Where an attempt's body stands.
use Rattle.std.specs.Prelude.{ℕ, ◌+◌, List, [], ◌∷◌, ◌++◌, length, nat_lt}
use Rattle.std.specs.Prelude.{if◌then◌else◌}
use Rattle.std.specs.List.{fold}
use Rattle.core_scalars.specs.Limits.{most_text}
use Rattle.repl_asks.specs.Exchange.{AnswerData}
use Rattle.repl_asks.specs.Accesses.{AccessData, AttemptData, nothing_noted, noted}
use Rattle.evaluation_rules.specs.Doing.{Doing, left, asking, printing, looking, noting, trying}

-- the text that is printed by then, what the attempt did, and what the body has still to do
pub record Standing : Type 0 where
  pub text : List ℕ
  pub accesses : List AccessData
  pub rest : Doing

-- what an attempt has after these accesses
abbrev pub attempt_of : List AccessData → AttemptData
attempt_of ops = fold (λ a op. noted op a) nothing_noted ops

-- Where it stands after these answers, with this text printed before and these accesses done: at
-- the first ask that is left without an answer, at a text that would pass the limit, or where it is
-- left.
abbrev pub standing_after : List ℕ → List AccessData → Doing → List AnswerData → Standing
standing_after text ops (left exit kept) answers =
    record { text = text; accesses = ops; rest = left exit kept }
standing_after text ops (asking ask behind) [] =
    record { text = text; accesses = ops; rest = asking ask behind }
standing_after text ops (asking ask behind) (answer ∷ answers) =
    standing_after text ops (behind answer) answers
standing_after text ops (printing more kept d) answers =
    if nat_lt most_text (length text + length more)
    then record { text = text; accesses = ops; rest = printing more kept d }
    else standing_after (text ++ more) ops d answers
standing_after text ops (looking behind) answers =
    standing_after text ops (behind (attempt_of ops)) answers
standing_after text ops (noting op d) answers = standing_after text (ops ++ op ∷ []) d answers
standing_after text ops (trying body d) answers = standing_after text ops d answers

-- the same from where a body stands
abbrev pub on_from : Standing → List AnswerData → Standing
on_from s = standing_after s.text s.accesses s.rest
