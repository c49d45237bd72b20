use Rattle.std.proofs.Common.{◌∙◌, sym, ap, Err}
use Rattle.repl_asks.specs.Inside.Jobs.{finished_view}
use Rattle.repl_walker.specs.declared.steps.Reached.{Reached}
use Rattle.server_rules.specs.Plan as deeds
use Rattle.tenant_asks.proofs.Remembering.{wanted-memory}
use Rattle.repl_core.specs.Inside.Standing.{parts}
use Rattle.repl_core.specs.Inside.Walked.{walk_ended}
use Rattle.repl_core.proofs.WalkSteps.{ends-same, at-so, some-same}
use Rattle.repl_core.proofs.Ending.{end-of-form}
use Rattle.repl_core.proofs.Steps.{does-removed, refused-parts, serves-same}
use Rattle.repl_core.proofs.Stores.{ends-reached}
use Rattle.repl_core.proofs.walks.Walks.end.Goals as goal

pub returns-in_err-finish-clause-refused : goal.returns-in_err-finish-clause-refused
returns-in_err-finish-clause-refused c = λ g l r run e right s runs at.
    let a = c.args.actor in
    let old = parts c.args.tenant.now c.args.refs.now c.args.self.now in
    let d = c.in-Some-Ends.finished in
    let kept = at-so (λ p. p.now) c.get.result _ (Reached.Ends d) _ c.get.ensures
    c.in-Some-Ends.is c.in-Some-Ends.field-0-is in
    let same = ends-same d e (some-same _ _ (sym kept ∙ at)) in
    let own = end-of-form a l.state run e _ runs
    (ap finished_view same) in
    refused-parts g l r (deeds.ends a (walk_ended run e)) old c.finish.new.self c.args.refs.now
    c.in_err-finish.field-0.0 c.from_residual.result s c.from_residual.ensures.1
    (c.in_err-finish.ensures.refused g l.state l.store (walk_ended run e) right s.tenant own) s.serves

pub returns-clause-done : goal.returns-clause-done
returns-clause-done c = λ g l r run e right s runs at.
    let a = c.args.actor in
    let old = parts c.args.tenant.now c.args.refs.now c.args.self.now in
    let d = c.in-Some-Ends.finished in
    let kept = at-so (λ p. p.now) c.get.result _ (Reached.Ends d) _ c.get.ensures
    c.in-Some-Ends.is c.in-Some-Ends.field-0-is in
    let same = ends-same d e (some-same _ _ (sym kept ∙ at)) in
    let own = end-of-form a l.state run e _ runs
    (ap finished_view same) in
    does-removed g l r (deeds.ends a (walk_ended run e)) a old
    (parts c.finish.new.self c.args.refs.now c.remove.new.self) _ s
    (c.in_ok-finish.ensures.done g l.state l.store (walk_ended run e) right s.tenant own)
    (serves-same g l r (deeds.ends a (walk_ended run e)) old s
    (ends-reached g l.state l.store a (walk_ended run e)))
    c.remove.ensures.gone c.remove.ensures.others

pub returns-in_err-finish-clause-no_memory : goal.returns-in_err-finish-clause-no_memory
returns-in_err-finish-clause-no_memory c = λ g l r run e right s runs at none.
    let d = c.in-Some-Ends.finished in
    let kept = at-so (λ p. p.now) c.get.result _ (Reached.Ends d) _ c.get.ensures
    c.in-Some-Ends.is c.in-Some-Ends.field-0-is in
    let same = ends-same d e (some-same _ _ (sym kept ∙ at)) in
    let own = end-of-form c.args.actor l.state run e _ runs
    (ap finished_view same) in
    let why = wanted-memory c.in_err-finish.field-0.0 c.from_residual.result
    c.from_residual.ensures.1 none in
    c.in_err-finish.ensures.no_memory g l.state l.store (walk_ended run e) right s.tenant own
    (ap (λ x. Err x) why)
