use Rattle.std.proofs.Common.{◌∙◌, ap}
use Rattle.server_rules.specs.Tenant.{seat_of}
use Rattle.tenant_parts.specs.Listed.{are_listed}
use Rattle.tenant_parts.proofs.Seats.{seen, removed-seen}
use Rattle.tenant_parts.proofs.Listing.{listed-gone}
use Rattle.tenant_parts.proofs.actors.Actors.remove.Goals as goal

pub returns : goal.returns
returns c =
    removed-seen c.args.actor c.args.self.now.live.entries c.remove-state.new.self.entries
    c.remove-state.ensures.entries c.remove-state.ensures.updates.1

pub invariant_of-self : goal.invariant_of-self
invariant_of-self c =
    let self = c.args.self.now in
    let was = self.live.entries in
    let left = c.take_off.new.busy in
    record {
      listed = ap (are_listed left) (removed-seen c.args.actor was c.remove-state.new.self.entries
          c.remove-state.ensures.entries c.remove-state.ensures.updates.1)
          ∙ listed-gone self.busy left (seat_of c.args.actor) (seen was)
          c.take_off.ensures.apart self.listed;
      agents = c.take_off.ensures.agents self.agents;
    }
