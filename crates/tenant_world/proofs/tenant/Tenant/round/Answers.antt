use Rattle.std.proofs.Common.{◌≡◌, ◌<◌, ◌∙◌, ap, length, rules}
use Rattle.tenant_parts.specs.View.{actors_view}
use Rattle.server_rules.specs.LoneTurns.{agents_last}
use Rattle.tenant_world.proofs.Enough.{busy-enough}
use Rattle.tenant_world.proofs.tenant.Tenant.round.Goals as goal

pub returns-then-len-self : goal.returns-then-len-self
returns-then-len-self c = λ g l stands.
    let busy = c.in_ok-busy.busy.items in
    let counted : c.len.result ≡ length busy = search rules in
    let room : c.len.result < c.args.self.now.steps = search rules in
    busy-enough l (actors_view c.args.self.now.actors) busy c.len.result c.args.self.now.steps
    stands.actors c.in_ok-found.ensures.order
    (c.in_ok-busy.ensures ∙ ap agents_last c.in_ok-found.ensures.names) counted stands.steps room
