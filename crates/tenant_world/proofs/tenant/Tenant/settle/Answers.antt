use Rattle.std.proofs.Common.{refl, ◌≡◌, suc, true, sym, subst}
use Rattle.tenant_world.proofs.Standing.{settled}
use Rattle.tenant_asks.specs.Memories.{opened_by}
use Rattle.tenant_world.specs.Seats.{are_below}
use Rattle.tenant_world.proofs.Seating.{below-stays}
use Rattle.tenant_world.proofs.tenant.Tenant.settle.Goals as goal

pub returns-clause-stands : goal.returns-clause-stands
returns-clause-stands c = λ g q after s state lends r reaches actors steps heard.
    settled g c.args.actor c.args.self.now _ q after s c.args.is_interrupted state lends r reaches
    actors steps heard refl refl refl refl refl c.leave.ensures

pub invariant_of-self : goal.invariant_of-self
invariant_of-self c =
    let self = c.args.self.now in
    record {
      taken = self.taken;
      seated = subst (λ es. are_below (suc (suc (opened_by self.memory))) es ≡ true)
          (sym c.leave.ensures) (below-stays _ c.args.is_interrupted c.args.actor _ self.seated);
    }
