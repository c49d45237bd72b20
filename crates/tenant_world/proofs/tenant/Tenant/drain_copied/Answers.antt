use Rattle.ref_table.proofs.Telling.{on_err}
use Rattle.tenant_world.proofs.Draining.{drains-accepted}
use Rattle.tenant_world.proofs.tenant.Tenant.drain_copied.Goals as goal

pub returns-in_err-noted-clause-no_memory : goal.returns-in_err-noted-clause-no_memory
returns-in_err-noted-clause-no_memory c = λ g q s stands.
    on_err c.from_residual.result
    (drains-accepted g q s c.args.self.now stands c.in_err-noted.ensures.some)

pub returns-clause-same : goal.returns-clause-same
returns-clause-same c = c.in_ok-noted.ensures.same _ _ c.in-Some.ensures.oldest
