use Rattle.std.proofs.Common.{◌∙◌, is_some, sym, ap}
use Rattle.repl_core.proofs.Comings.{does-close, refuses-close}
use Rattle.repl_core.proofs.Places.{there-some, there-none}
use Rattle.repl_core.specs.TenantAt.{tenant_at}
use Rattle.repl_core.proofs.machine.Machine.close.Goals as goal

pub returns-in_default-clause-refused : goal.returns-in_default-clause-refused
returns-in_default-clause-refused c = λ g w s.
    refuses-close g w c.args.number c.args.self.now c.remove.new.self s
    (there-none (tenant_at c.args.self.now.tenants c.args.number)
    (sym c.remove.ensures.was ∙ ap is_some c.in_default.is))
    c.remove.ensures.gone c.remove.ensures.others

pub returns-clause-done : goal.returns-clause-done
returns-clause-done c = λ g w s.
    let there = there-some (tenant_at c.args.self.now.tenants c.args.number)
    (sym c.remove.ensures.was ∙ ap is_some c.in-Some.is) in
    does-close g w c.args.number c.saturating_sub-self.result c.args.self.now c.remove.new.self c.release.new.self
    there.0 s there.1 c.remove.ensures.gone c.remove.ensures.others
    c.release.ensures c.saturating_sub-self.ensures
