use Rattle.std.proofs.Common.{refl}
use Rattle.tenant_world.proofs.Draining.{drains}
use Rattle.tenant_world.proofs.tenant.Tenant.drain.Goals as goal

pub returns-clause-drained : goal.returns-clause-drained
returns-clause-drained c = λ g q s stands.
    drains (λ v. v.items) g q s c.args.self.now _ c.take.result (record {
      retries = refl;
      steps = refl;
      decoder = refl;
      actors = refl;
      sessions = refl;
      bare = refl;
      spaces = refl;
      cells = refl;
      attempts = refl;
    }) stands c.take.ensures
