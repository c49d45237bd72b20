-- An answer that is there three times, as the rules have it.
use Rattle.std.specs.Prelude.{◌≡◌, Option, None, Some, option_map, ⊤}
use Rattle.repl_asks.specs.Exchange.{AnswerData}
use Rattle.repl_asks.specs.Inside.View.{answer_view}
use Rattle.tenant_parts.specs.declared.copies.AnswerCopies.{AnswerCopies}

abbrev pub copies_view : AnswerCopies → AnswerData
copies_view it = answer_view it.kept

-- all are the same
pub record AreAllSame (it : AnswerCopies) : Type 0 where
  pub given : answer_view it.given ≡ answer_view it.kept
  pub noted : answer_view it.noted ≡ answer_view it.kept

abbrev pub AreCopies : Option AnswerCopies → Type 0
AreCopies None = ⊤
AreCopies (Some it) = AreAllSame it

-- what is told, if anything is
abbrev pub told_answer : Option AnswerCopies → Option AnswerData
told_answer = option_map copies_view
