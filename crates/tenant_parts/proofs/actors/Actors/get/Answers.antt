use Rattle.std.proofs.Common.{◌∙◌, ap, option_map}
use Rattle.tenant_parts.specs.View.{actor_view}
use Rattle.tenant_parts.proofs.Seats.{part_under-seen, behind-reference}
use Rattle.tenant_parts.proofs.actors.Actors.get.Goals as goal

pub returns : goal.returns
returns c =
    behind-reference c.get.result ∙ ap (option_map actor_view) c.get.ensures.value
    ∙ part_under-seen c.args.actor c.args.self.now.live.entries
