use Rattle.std.proofs.Common.{◌∙◌, sym, subst}
use Rattle.tenant_parts.specs.View.{run_view}
use Rattle.repl_core.specs.Inside.Walked.{IsWalkOf}
use Rattle.repl_core.specs.Inside.WalkAt.{walk_at}
use Rattle.repl_core.proofs.WalkSteps.{walked-all, some-same, none-where}
use Rattle.repl_core.proofs.Steps.{put-so, put-others}
use Rattle.repl_core.proofs.walks.Walks.find.Goals as goal

pub returns-in-Ok-clause-walked : goal.returns-in-Ok-clause-walked
returns-in-Ok-clause-walked c = λ q mine walked.
    let a = c.args.actor in
    let gone = none-where (λ p. p.now) c.get.result _ c.is_some.result c.get.ensures
    c.is_some.ensures c.if-is_some.false in
    walked-all a (walk_at c.put.new.self) q
    (λ b run p apart runs at. walked b run p runs
    (sym (put-others a b c.args.self.now c.put.new.self c.put.result c.put.ensures.others
    c.put.ensures.stays apart) ∙ at))
    (λ run p runs at.
    let same = put-so a c.args.self.now c.put.new.self c.in-Ok.found p c.put.result
    c.put.ensures.put c.put.ensures.stays gone at in
    subst (λ x. IsWalkOf x p) (some-same (run_view c.args.run.now) run (sym mine ∙ runs))
    (subst (IsWalkOf (run_view c.args.run.now)) same c.in-Ok.ensures))
