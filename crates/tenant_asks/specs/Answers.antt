-- What an ask is answered, as the rules have it.
use Rattle.std.specs.Prelude.{◌≡◌}
use Rattle.repl_asks.specs.Inside.View.{answer_view}
use Rattle.server_rules.specs.Plan.{StepAnswer, ask_answered, request_interrupted}
use Rattle.tenant_asks.specs.declared.answers.AskAnswer.{AskAnswer}
use Rattle.tenant_asks.specs.declared.answers.AskAnswers.{AskAnswers}

abbrev pub ask_answer_view : AskAnswer → StepAnswer
ask_answer_view (AskAnswer.Answer answer) = ask_answered (answer_view answer)
ask_answer_view AskAnswer.Interrupted = request_interrupted

-- both are the same
abbrev pub AreSameAnswers : AskAnswers → Type 0
AreSameAnswers it = ask_answer_view it.noted ≡ ask_answer_view it.given
