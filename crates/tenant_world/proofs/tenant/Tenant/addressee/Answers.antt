use Rattle.std.proofs.Common.{◌≡◌, ◌∙◌, ⊎_elim, Some, ap, sym, rules, option_map, option_and_then}
use Rattle.repl_replies.specs.Inside.View.{origin_view}
use Rattle.ref_table.specs.Numbered.{part_under}
use Rattle.server_rules.specs.Tenant.{ActorData, seat_of}
use Rattle.tenant_parts.specs.Ahead.{told_of}
use Rattle.tenant_parts.specs.View.{actor_view, hand_view}
use Rattle.tenant_world.proofs.tenant.Tenant.addressee.Goals as goal

pub returns-in_ok-namespace-in-LastForm : goal.returns-in_ok-namespace-in-LastForm
returns-in_ok-namespace-in-LastForm c = λ g q s st.
    let a = c.args.actor in
    let h = c.in_ok-hand.hand.now in
    let at : c.in_ok-state.state.now.hand ≡ Some h = search rules in
    let there : part_under (seat_of a) q.actors ≡ Some (actor_view c.in_ok-state.state.now) =
    ap (part_under (seat_of a)) (sym st.actors) ∙ sym c.in_ok-state.ensures in
    record {
      hand = hand_view h;
      is_there = ap (option_and_then (λ (x : ActorData). x.hand)) there
          ∙ ap (option_map hand_view) at;
      origin = ap origin_view c.in-Ok.ensures;
      elsewhere = rw c.in-LastForm.is;
      namespace = c.in_ok-namespace-in-LastForm.ensures g q s st;
      value = c.tells_value-hears_value.ensures ∙ ap (λ o. told_of (option_map hand_view o)) at;
    }

pub returns-in-EachForm : goal.returns-in-EachForm
returns-in-EachForm c = λ g q s st.
    let a = c.args.actor in
    let h = c.in_ok-hand.hand.now in
    let at : c.in_ok-state.state.now.hand ≡ Some h = search rules in
    let there : part_under (seat_of a) q.actors ≡ Some (actor_view c.in_ok-state.state.now) =
    ap (part_under (seat_of a)) (sym st.actors) ∙ sym c.in_ok-state.ensures in
    record {
      hand = hand_view h;
      is_there = ap (option_and_then (λ (x : ActorData). x.hand)) there
          ∙ ap (option_map hand_view) at;
      origin = ap origin_view c.in-Ok.ensures;
      elsewhere = ⊎_elim (λ e. rw e) (⊎_elim (λ e. rw e) (λ e. rw e.1)) c.in-EachForm.is;
      namespace = tt;
      value = c.tells_value-hears_value.ensures ∙ ap (λ o. told_of (option_map hand_view o)) at;
    }
