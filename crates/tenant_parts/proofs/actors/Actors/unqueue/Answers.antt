use Rattle.std.proofs.Common.{◌∙◌, ap, sym}
use Rattle.std.specs.BTreeMap.{BTreeMap}
use Rattle.server_rules.specs.Tenant.{seat_of}
use Rattle.server_rules.specs.declared.actor.Actor.{Actor}
use Rattle.tenant_parts.specs.Busy.{is_busy}
use Rattle.tenant_parts.specs.Listed.{are_listed}
use Rattle.tenant_parts.specs.Queues.{without_newest}
use Rattle.tenant_parts.specs.States.{actor_view}
use Rattle.tenant_parts.specs.declared.actor.ActorState.{ActorState}
use Rattle.tenant_parts.proofs.Seats.{Entries, seen, with_part-seen}
use Rattle.tenant_parts.proofs.Listing.{listed-less, newest-busy}
use Rattle.tenant_parts.proofs.QueueLaws.{changed-seen, absent-changed, state-part_under}
use Rattle.tenant_parts.proofs.actors.Actors.unqueue.Goals as goal

pub returns-in_default : goal.returns-in_default
returns-in_default c =
    let was = c.args.self.now.live.entries in
    ap (λ (m : BTreeMap Actor ActorState). seen m.entries) c.get_mut.follows.holds-at-none
    ∙ absent-changed c.args.actor without_newest was (sym c.in_default.ensures.value)

pub invariant_of-self-2 : goal.invariant_of-self-2
invariant_of-self-2 c =
    let self = c.args.self.now in
    let a = c.args.actor in
    let was = self.live.entries in
    let left = c.unqueue.new.self in
    let v = c.in-Some.state.now in
    record {
      listed = ap (λ (es : Entries). are_listed self.busy (seen es)) (c.get_mut.follows.holds left).0
          ∙ ap (are_listed self.busy) (with_part-seen a left was)
          ∙ listed-less self.busy (seat_of a) (actor_view left) (actor_view v) (seen was)
          (state-part_under a v was (sym c.in-Some.ensures.value))
          (λ busy. newest-busy (actor_view v) (sym (ap is_busy c.unqueue.ensures) ∙ busy)) self.listed;
      agents = self.agents;
    }

pub returns : goal.returns
returns c =
    let was = c.args.self.now.live.entries in
    c.rest.ensures
    ∙ ap seen (c.get_mut.follows.holds c.unqueue.new.self).0
    ∙ changed-seen c.args.actor without_newest c.in-Some.state.now c.unqueue.new.self was (sym c.in-Some.ensures.value) c.unqueue.ensures
