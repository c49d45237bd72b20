use Rattle.std.proofs.Common.{◌≡◌, ◌∙◌, ◌||◌, ap, sym, Bool, true, None, is_some, option_map}
use Rattle.std.specs.BTreeMap.{BTreeMap}
use Rattle.std.specs.Map.{remove_entry}
use Rattle.server_rules.specs.Machine.Ready.{has_waiting}
use Rattle.ref_table.specs.Numbered.{with_part}
use Rattle.server_rules.specs.Tenant.{ActorData, seat_of}
use Rattle.server_rules.specs.declared.actor.Actor.{Actor}
use Rattle.tenant_parts.specs.Listed.{are_listed}
use Rattle.tenant_parts.specs.View.{hand_view, actor_view}
use Rattle.tenant_parts.specs.declared.actor.ActorState.{ActorState}
use Rattle.tenant_parts.proofs.Seats.{Entries, at, seen, with_part-seen, removed-seen}
use Rattle.tenant_parts.proofs.QueueLaws.{absent-vacated, with_vacated_seat-seen}
use Rattle.tenant_parts.proofs.QueueLaws.{with_vacated_seat-closed, with_vacated_seat-gone}
use Rattle.tenant_parts.proofs.QueueLaws.{still-some, still-none, unwritten, state-part_under}
use Rattle.tenant_parts.proofs.Listing.{listed-less, listed-gone}
use Rattle.tenant_parts.proofs.actors.Actors.vacate.Goals as goal

pub returns-in_default : goal.returns-in_default
returns-in_default c =
    let was = c.args.self.now.live.entries in
    ap (λ (m : BTreeMap Actor ActorState). seen m.entries) c.get_mut.follows.holds-at-none
    ∙ absent-vacated c.args.actor was (sym c.in_default.ensures.value)

pub returns-then-is_some : goal.returns-then-is_some
returns-then-is_some c =
    let was = c.args.self.now.live.entries in
    let v = c.in-Some.state.now in
    let seat = seat_of c.args.actor in
    let busy : is_some (option_map hand_view v.hand) ≡ true =
    still-some v.hand (sym c.is_some.ensures ∙ c.if-is_some.true) in
    ap seen (c.get_mut.follows.holds c.close.new.self).0
    ∙ with_part-seen c.args.actor c.close.new.self was
    ∙ ap (λ (x : ActorData). with_part seat x (seen was)) c.close.ensures
    ∙ sym (with_vacated_seat-seen c.args.actor v was (sym c.in-Some.ensures.value)
    ∙ with_vacated_seat-closed seat (option_map hand_view v.hand) (seen was) busy)

pub returns : goal.returns
returns c =
    let was = c.args.self.now.live.entries in
    let v = c.in-Some.state.now in
    let seat = seat_of c.args.actor in
    let idle : option_map hand_view v.hand ≡ None =
    still-none v.hand (sym c.is_some.ensures ∙ c.if-is_some.false) in
    removed-seen c.args.actor was c.remove.new.self.entries
    (c.remove.ensures.entries ∙ ap (λ (es : Entries). remove_entry (at c.args.actor) es) (unwritten c.args.actor v was (c.get_mut.follows.holds v).0 (sym c.in-Some.ensures.value)))
    c.remove.ensures.updates.1
    ∙ sym (with_vacated_seat-seen c.args.actor v was (sym c.in-Some.ensures.value) ∙ with_vacated_seat-gone seat (option_map hand_view v.hand) (seen was) idle)

pub invariant_of-self-then-is_some : goal.invariant_of-self-then-is_some
invariant_of-self-then-is_some c =
    let self = c.args.self.now in
    let a = c.args.actor in
    let was = self.live.entries in
    let left = c.close.new.self in
    let v = c.in-Some.state.now in
    let busy : is_some (option_map hand_view v.hand) ≡ true =
    still-some v.hand (sym c.is_some.ensures ∙ c.if-is_some.true) in
    record {
      listed = ap (λ (es : Entries). are_listed self.busy (seen es)) (c.get_mut.follows.holds left).0
          ∙ ap (are_listed self.busy) (with_part-seen a left was)
          ∙ listed-less self.busy (seat_of a) (actor_view left) (actor_view v) (seen was)
          (state-part_under a v was (sym c.in-Some.ensures.value))
          (λ still. ap (λ (b : Bool). b || has_waiting (actor_view v).waiting) busy) self.listed;
      agents = self.agents;
    }

pub invariant_of-self-2 : goal.invariant_of-self-2
invariant_of-self-2 c =
    let self = c.args.self.now in
    let was = self.live.entries in
    let v = c.in-Some.state.now in
    let left = c.take_off.new.busy in
    record {
      listed = ap (are_listed left) (removed-seen c.args.actor was c.remove.new.self.entries
          (c.remove.ensures.entries ∙ ap (λ (es : Entries). remove_entry (at c.args.actor) es) (unwritten c.args.actor v was (c.get_mut.follows.holds v).0 (sym c.in-Some.ensures.value)))
          c.remove.ensures.updates.1)
          ∙ listed-gone self.busy left (seat_of c.args.actor) (seen was)
          c.take_off.ensures.apart self.listed;
      agents = c.take_off.ensures.agents self.agents;
    }
