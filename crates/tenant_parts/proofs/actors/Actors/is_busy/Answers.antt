use Rattle.std.proofs.Common.{◌∙◌, ap, option_map}
use Rattle.tenant_parts.specs.Busy.{is_busy, passes}
use Rattle.tenant_parts.specs.States.{actor_view}
use Rattle.tenant_parts.proofs.Seats.{part_under-seen}
use Rattle.tenant_parts.proofs.actors.Actors.is_busy.Goals as goal

pub returns-in-Some : goal.returns-in-Some
returns-in-Some c =
    c.is_busy.ensures
    ∙ ap (λ o. passes is_busy (option_map actor_view o)) c.in-Some.ensures.value
    ∙ ap (passes is_busy) (part_under-seen c.args.actor c.args.self.now.live.entries)

pub returns-in-None : goal.returns-in-None
returns-in-None c =
    ap (λ o. passes is_busy (option_map actor_view o)) c.in-None.ensures.value
    ∙ ap (passes is_busy) (part_under-seen c.args.actor c.args.self.now.live.entries)
