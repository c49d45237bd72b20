use Rattle.std.proofs.Common.{◌∙◌, sym}
use Rattle.server_rules.specs.Tenant.{seat_of}
use Rattle.tenant_parts.proofs.Seats.{seen}
use Rattle.tenant_parts.proofs.Listing.{listed-rest}
use Rattle.tenant_parts.proofs.actors.Actors.rest.Goals as goal

pub invariant_of-self : goal.invariant_of-self
invariant_of-self c =
    let self = c.args.self.now in
    record {
      listed = listed-rest self.busy c.take_off.new.busy (seat_of c.args.actor) (seen self.live.entries)
          c.take_off.ensures.apart
          c.ascend.ensures
          (sym c.is_busy.ensures ∙ c.if-not-is_busy.true) self.listed;
      agents = c.take_off.ensures.agents self.agents;
    }
