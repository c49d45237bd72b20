use Rattle.std.proofs.Common.{◌∙◌, ap, [], ◌∷◌, ◌++◌}
use Rattle.ref_table.specs.Numbered.{entry}
use Rattle.server_rules.specs.Tenant.{ActorData, seat_of}
use Rattle.tenant_parts.specs.Busy.{is_busy}
use Rattle.tenant_parts.specs.Listed.{are_listed}
use Rattle.tenant_parts.specs.States.{actor_entry_view}
use Rattle.tenant_parts.proofs.Seats.{Entries, seen, added-seen}
use Rattle.tenant_parts.proofs.Listing.{listed-behind, either-way}
use Rattle.tenant_parts.proofs.actors.Actors.open.Goals as goal

pub returns-clause-added : goal.returns-clause-added
returns-clause-added c =
    let was = c.args.self.now.live.entries in
    ap seen c.in_ok-insert.ensures.entries
    ∙ added-seen c.args.actor c.unoccupied.result was c.requires
    ∙ ap (λ (a : ActorData). seen was ++ entry (seat_of c.args.actor) a ∷ []) c.unoccupied.ensures

pub invariant_of-self : goal.invariant_of-self
invariant_of-self c =
    let self = c.args.self.now in
    let was = self.live.entries in
    record {
      listed = either-way c.insert.result c.insert.ensures.entries c.insert.ensures.err
          (λ put. ap (are_listed self.busy) (ap seen put
          ∙ added-seen c.args.actor c.unoccupied.result was c.requires)
          ∙ listed-behind self.busy (actor_entry_view (c.args.actor, c.unoccupied.result)) (seen was)
          (ap is_busy c.unoccupied.ensures) self.listed)
          (λ same. ap (λ (es : Entries). are_listed self.busy (seen es)) same ∙ self.listed);
      agents = self.agents;
    }
