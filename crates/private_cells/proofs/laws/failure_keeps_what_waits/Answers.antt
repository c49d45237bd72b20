use Rattle.std.proofs.Common.{refl, Some}
use Rattle.private_cells.proofs.Lawful.{end_waiting}
use Rattle.private_cells.proofs.laws.failure_keeps_what_waits.Goals as goal

pub returns : goal.returns
returns c = λ s f n. end_waiting (λ a. record a { fault = Some f }) (λ a. refl) n s.agents
