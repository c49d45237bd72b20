use Rattle.std.proofs.Common.{◌∙◌, sym, subst}
use Rattle.repl_asks.specs.Inside.View.{ask_view, answer_view}
use Rattle.tenant_asks.specs.Asking.{exchange_from, run_with}
use Rattle.repl_core.specs.Inside.Walked.{IsWalkOf}
use Rattle.repl_core.proofs.WalkSteps.{walk-resumed, some-same, asks-same}
use Rattle.repl_core.proofs.Steps.{put-so}
use Rattle.repl_core.proofs.walks.Walks.resume.Goals as goal

pub returns-in-Ok-clause-resumed : goal.returns-in-Ok-clause-resumed
returns-in-Ok-clause-resumed c = λ run w k p at walk there.
    let answer = answer_view c.args.answer in
    let v = c.in-Some-Asks.walk in
    let j = c.in-Some-Asks._asked in
    let found = sym c.in-Some-Asks.is ∙ c.take.ensures.taken ∙ at in
    let same = sym c.in-Some-Asks.field-0-is ∙ some-same _ _ found in
    let asked = asks-same v w j k same in
    let put = put-so c.args.actor c.take.new.self c.put.new.self c.in-Ok.later p c.put.result
    c.put.ensures.put c.put.ensures.stays c.take.ensures.gone there in
    let of_v = subst (IsWalkOf run) (sym same) walk in
    let later = walk-resumed run v j c.in-Ok.later answer of_v c.in-Ok.ensures.meaning in
    subst (λ x. IsWalkOf (run_with (exchange_from (ask_view x) answer) run) p) asked
    (subst (IsWalkOf (run_with (exchange_from (ask_view j) answer) run)) put later)
