use Rattle.std.proofs.Common.{◌∙◌, ap, sym}
use Rattle.std.specs.BTreeMap.{BTreeMap}
use Rattle.std.proofs.lemmas.Result.{on_ok_weaker, on_err_weaker}
use Rattle.server_rules.specs.Tenant.{seat_of}
use Rattle.server_rules.specs.declared.actor.Actor.{Actor}
use Rattle.tenant_parts.specs.Listed.{are_listed}
use Rattle.tenant_parts.specs.Queues.{with_changed_actor, with_request, without_newest}
use Rattle.tenant_parts.specs.View.{actor_view, waiting_view}
use Rattle.tenant_parts.specs.declared.actor.ActorState.{ActorState}
use Rattle.tenant_parts.proofs.Seats.{Entries, seen, with_part-seen}
use Rattle.tenant_parts.proofs.Listing.{listed-more, listed-put, keeps-same, keeps-inserted}
use Rattle.tenant_parts.proofs.Listing.{has-inserted, on-err}
use Rattle.tenant_parts.proofs.QueueLaws.{changed-seen, kept-seen, absent-changed, queued-back}
use Rattle.tenant_parts.proofs.QueueLaws.{unwritten}
use Rattle.tenant_parts.proofs.actors.Actors.queue.Goals as goal

pub returns-in_default-clause-queued : goal.returns-in_default-clause-queued
returns-in_default-clause-queued c =
    let was = c.args.self.now.live.entries in
    ap (λ (m : BTreeMap Actor ActorState). seen m.entries) c.get_mut.follows.holds-at-none
    ∙ absent-changed c.args.actor (with_request (waiting_view c.args.request)) was (sym c.in_default.ensures.value)

pub returns-in_default-clause-undone : goal.returns-in_default-clause-undone
returns-in_default-clause-undone c =
    let was = c.args.self.now.live.entries in
    ap (λ (m : BTreeMap Actor ActorState). with_changed_actor (seat_of c.args.actor) without_newest (seen m.entries)) c.get_mut.follows.holds-at-none
    ∙ sym (absent-changed c.args.actor without_newest was (sym c.in_default.ensures.value))

pub invariant_of-self-in-Break-1 : goal.invariant_of-self-in-Break-1
invariant_of-self-in-Break-1 c =
    let self = c.args.self.now in
    let v = c.in-Some.state.now in
    let listed = c.insert.new.self in
    record {
      listed = ap (λ (es : Entries). are_listed listed (seen es))
          (unwritten c.args.actor v self.live.entries (c.get_mut.follows.holds v).0 (sym c.in-Some.ensures.value))
          ∙ listed-more self.busy listed (seen self.live.entries)
          (keeps-same self.busy listed c.in_err-insert.ensures.err) self.listed;
      agents = keeps-same self.busy listed c.in_err-insert.ensures.err 0 self.agents;
    }

pub returns-in_err-insert-clause-stays : goal.returns-in_err-insert-clause-stays
returns-in_err-insert-clause-stays c =
    let v = c.in-Some.state.now in
    on-err c.from_residual.result
    (ap seen (unwritten c.args.actor v c.args.self.now.live.entries (c.get_mut.follows.holds v).0 (sym c.in-Some.ensures.value)))

pub invariant_of-self-2 : goal.invariant_of-self-2
invariant_of-self-2 c =
    let self = c.args.self.now in
    let a = c.args.actor in
    let was = self.live.entries in
    let left = c.queue.new.self in
    let listed = c.insert.new.self in
    let updates = c.in_ok-insert.ensures.updates in
    record {
      listed = ap (λ (es : Entries). are_listed listed (seen es)) (c.get_mut.follows.holds left).0
          ∙ ap (are_listed listed) (with_part-seen a left was)
          ∙ listed-put self.busy listed (seat_of a) (actor_view left) (seen was)
          (has-inserted a self.busy listed updates) (keeps-inserted a self.busy listed updates)
          self.listed;
      agents = keeps-inserted a self.busy listed updates 0 self.agents;
    }

pub returns-clause-queued : goal.returns-clause-queued
returns-clause-queued c =
    let was = c.args.self.now.live.entries in
    let w = waiting_view c.args.request in
    on_ok_weaker c.queue.result (λ d.
    ap seen (c.get_mut.follows.holds c.queue.new.self).0
    ∙ changed-seen c.args.actor (with_request w) c.in-Some.state.now c.queue.new.self was (sym c.in-Some.ensures.value) d)
    c.queue.ensures.queued

pub returns-clause-undone : goal.returns-clause-undone
returns-clause-undone c =
    let was = c.args.self.now.live.entries in
    let w = waiting_view c.args.request in
    let seat = seat_of c.args.actor in
    on_ok_weaker c.queue.result (λ d.
    ap (with_changed_actor seat without_newest)
    (ap seen (c.get_mut.follows.holds c.queue.new.self).0
    ∙ changed-seen c.args.actor (with_request w) c.in-Some.state.now c.queue.new.self was (sym c.in-Some.ensures.value) d)
    ∙ queued-back seat w (seen was))
    c.queue.ensures.queued

pub returns-clause-stays : goal.returns-clause-stays
returns-clause-stays c =
    let was = c.args.self.now.live.entries in
    on_err_weaker c.queue.result (λ d.
    ap seen (c.get_mut.follows.holds c.queue.new.self).0
    ∙ kept-seen c.args.actor c.in-Some.state.now c.queue.new.self was (sym c.in-Some.ensures.value) d)
    c.queue.ensures.stays
