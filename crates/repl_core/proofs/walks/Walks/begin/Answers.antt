use Rattle.std.proofs.Common.{ap, Err}
use Rattle.server_rules.specs.Plan as deeds
use Rattle.tenant_asks.proofs.Remembering.{wanted-memory}
use Rattle.repl_core.specs.Inside.Standing.{parts}
use Rattle.repl_core.proofs.Steps.{does-removed, refused-parts, serves-same}
use Rattle.repl_core.proofs.Stores.{starts-reached}
use Rattle.repl_core.proofs.walks.Walks.begin.Goals as goal

pub returns-in_err-start-clause-refused : goal.returns-in_err-start-clause-refused
returns-in_err-start-clause-refused c = λ g l r right s.
    let old = parts c.args.tenant.now c.args.refs.now c.args.self.now in
    refused-parts g l r (deeds.starts c.args.actor) old c.start.new.self c.args.refs.now
    c.in_err-start.field-0.0 c.from_residual.result s c.from_residual.ensures.1
    (c.in_err-start.ensures.refused g l.state l.store right s.tenant) s.serves

pub returns-clause-done : goal.returns-clause-done
returns-clause-done c = λ g l r right s.
    let a = c.args.actor in
    let old = parts c.args.tenant.now c.args.refs.now c.args.self.now in
    does-removed g l r (deeds.starts a) a old
    (parts c.start.new.self c.args.refs.now c.remove.new.self) _ s
    (c.in_ok-start.ensures.done g l.state l.store right s.tenant)
    (serves-same g l r (deeds.starts a) old s (starts-reached g l.state l.store a))
    c.remove.ensures.gone c.remove.ensures.others

pub returns-in_err-start-clause-no_memory : goal.returns-in_err-start-clause-no_memory
returns-in_err-start-clause-no_memory c = λ g l r right s none.
    let why = wanted-memory c.in_err-start.field-0.0 c.from_residual.result
    c.from_residual.ensures.1 none in
    c.in_err-start.ensures.no_memory g l.state l.store right s.tenant (ap (λ e. Err e) why)
