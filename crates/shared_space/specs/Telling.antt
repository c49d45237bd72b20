-- That what was told is what the rules say, and all is as they leave it.
use Rattle.std.specs.Prelude.{◌≡◌, Option, None, Some}
use Rattle.repl_asks.specs.Exchange.{AskData, AnswerData}
use Rattle.repl_asks.specs.Inside.View.{answer_view}
use Rattle.name_spaces.specs.Bindings.{Bindings}
use Rattle.server_rules.specs.Shared.{SharedData, told_in_text, shared_after}
use Rattle.tenant_parts.specs.Serving.{RingRefTable}
use Rattle.shared_space.specs.Holding.{HoldsShared}
use Rattle.shared_space.specs.declared.telling.ToldAnswer.{ToldAnswer}

abbrev pub told_view : ToldAnswer → AnswerData
told_view told = answer_view told.noted

-- both are the same
abbrev pub IsTwice : ToldAnswer → Type 0
IsTwice told = answer_view told.given ≡ answer_view told.noted

-- where nothing is told, nothing changes
abbrev pub left_behind : Option AnswerData → AskData → SharedData → SharedData
left_behind (Some answer) ask s = shared_after ask s
left_behind None ask s = s

pub record ToldBehind (s : SharedData) (ask : AskData) (names : Bindings) (table : RingRefTable)
    (told : Option AnswerData) : Type 0 where
  pub is : told ≡ told_in_text ask s
  pub holds : HoldsShared names table (left_behind told ask s)
