use Rattle.std.proofs.Common.{◌∙◌, ap, refl, option_map}
use Rattle.std.specs.BTreeMap.{BTreeMap}
use Rattle.server_rules.specs.declared.actor.Actor.{Actor}
use Rattle.tenant_parts.specs.Listed.{are_listed}
use Rattle.tenant_parts.specs.States.{actor_view}
use Rattle.tenant_parts.specs.declared.actor.ActorState.{ActorState}
use Rattle.tenant_parts.proofs.Seats.{Entries, seen, with_part-seen, part_under-seen, behind-lent}
use Rattle.tenant_parts.proofs.Listing.{listed-lent_of}
use Rattle.tenant_parts.proofs.actors.Actors.get_mut.Goals as goal

pub invariant_of-self-lent : goal.invariant_of-self-lent
invariant_of-self-lent c = λ o.
    let self = c.args.self.now in
    let was = self.live.entries in (
      λ w. (
        ap (λ (es : Entries). are_listed self.busy (seen es)) (c.get_mut.follows.holds w).0
            ∙ ap (are_listed self.busy) (with_part-seen c.args.actor w was)
            ∙ listed-lent_of self.busy c.args.actor (actor_view w) (seen was)
            c.requires self.agents self.listed,
        (self.agents, tt),
      ),
      (
        ap (λ (m : BTreeMap Actor ActorState). are_listed self.busy (seen m.entries))
            c.get_mut.follows.holds-at-none ∙ self.listed,
        (self.agents, tt),
      ),
    )

pub returns : goal.returns
returns c =
    let was = c.args.self.now.live.entries in (
      (
        refl,
        λ w. ap seen (c.get_mut.follows.holds w).0 ∙ with_part-seen c.args.actor w was,
        ap (λ (m : BTreeMap Actor ActorState). seen m.entries) c.get_mut.follows.holds-at-none,
      ),
      record {
        writes_back = tt;
        value = behind-lent c.get_mut.result ∙ ap (option_map actor_view) c.get_mut.ensures.value
            ∙ part_under-seen c.args.actor was;
      },
    )
