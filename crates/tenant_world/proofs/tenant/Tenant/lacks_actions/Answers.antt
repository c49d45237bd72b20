use Rattle.std.proofs.Common.{◌<◌, ◌∙◌, sym, ap, subst, option_map, not}
use Rattle.ref_table.specs.Numbered.{part_under}
use Rattle.server_rules.specs.Tenant.{seat_of}
use Rattle.server_rules.specs.Starting.{action_for}
use Rattle.tenant_parts.specs.View.{actor_view}
use Rattle.tenant_world.specs.Actions.{next_action_view}
use Rattle.tenant_world.proofs.Begins.{none-mapped}
use Rattle.tenant_world.proofs.Standing.{begins-nothing, some-left}
use Rattle.tenant_world.proofs.tenant.Tenant.lacks_actions.Goals as goal

pub returns : goal.returns
returns c = λ g q s stands idle.
    let a = c.args.actor in
    let there = ap (part_under (seat_of a)) (sym stands.actors) ∙ sym c.get.ensures
    ∙ ap (option_map (λ it. actor_view it.now)) c.in-Some.is in
    let none = sym (ap (λ x. action_for a x.agents) stands.remembers.cells)
    ∙ sym c.next_for.ensures
    ∙ none-mapped next_action_view c.next_for.result (c.is_none.ensures ∙ ap not idle) in
    let some = subst (λ n. 0 < n) stands.steps (some-left c.args.self.now.steps c.if-self-eq0.false) in
    begins-nothing g q s a (actor_view c.in-Some.state.now) some there
    (sym c.is_busy.ensures ∙ c.if-is_busy.false) none
