use Rattle.std.proofs.Common.{◌∙◌, ap, option_map}
use Rattle.server_rules.specs.Machine.Ready.{may_begin}
use Rattle.tenant_parts.specs.Busy.{passes}
use Rattle.tenant_parts.specs.States.{actor_view}
use Rattle.tenant_parts.proofs.Seats.{part_under-seen}
use Rattle.tenant_parts.proofs.actors.Actors.has_work.Goals as goal

pub returns-in-Some : goal.returns-in-Some
returns-in-Some c =
    c.has_work.ensures
    ∙ ap (λ o. passes (λ it. may_begin it.waiting it.hand) (option_map actor_view o)) c.in-Some.ensures.value
    ∙ ap (passes (λ it. may_begin it.waiting it.hand)) (part_under-seen c.args.actor c.args.self.now.live.entries)

pub returns-in-None : goal.returns-in-None
returns-in-None c =
    ap (λ o. passes (λ it. may_begin it.waiting it.hand) (option_map actor_view o)) c.in-None.ensures.value
    ∙ ap (passes (λ it. may_begin it.waiting it.hand)) (part_under-seen c.args.actor c.args.self.now.live.entries)
