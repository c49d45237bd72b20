use Rattle.std.proofs.Common.{◌∙◌}
use Rattle.tenant_asks.proofs.naming.name.Goals as goal

pub returns-clause-answered : goal.returns-clause-answered
returns-clause-answered c = λ g t sender q r. (
  c.in_ok-answer.ensures.view ∙ c.in_ok-answer_of.ensures g t q r,
  c.in_ok-change.ensures.changed g t sender _ q r,
)
