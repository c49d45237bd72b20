-- An evaluation as others see it: it ends, or asks and goes on with the answer.
use Rattle.repl_asks.specs.Job.{EndData}
use Rattle.repl_asks.specs.Exchange.{AskData, AnswerData}

pub data InteractionTree : Type 0 where
  finished : EndData → InteractionTree
  asks : AskData → (AnswerData → InteractionTree) → InteractionTree
