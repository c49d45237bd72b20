use Rattle.std.proofs.Common.{◌≡◌, ◌∙◌, refl, sym, ap, subst, option_map}
use Rattle.repl_asks.specs.Job.{EndData}
use Rattle.repl_asks.specs.Inside.Jobs.{end_view, finished_view}
use Rattle.repl_sessions.specs.State.{StateData}
use Rattle.repl_sessions.specs.Inside.StateView.{state_view}
use Rattle.server_rules.specs.Cells.{CellsData, with_agents}
use Rattle.server_rules.specs.Ending.{with_cells_ended}
use Rattle.server_rules.specs.Request.{WorkInHand}
use Rattle.server_rules.specs.Tenant.{actor_state}
use Rattle.server_rules.specs.Moves.{form_ended}
use Rattle.server_rules.specs.Starting.{after_move}
use Rattle.server_rules.specs.Plan.{leaves, with_step_spent, form_finished}
use Rattle.tenant_parts.specs.View.{actor_view, hand_view}
use Rattle.tenant_asks.specs.Acting.{AcceptsOutcome}
use Rattle.tenant_world.specs.Actions.{action_end, agents_behind}
use Rattle.tenant_asks.specs.Cells.{cells_data}
use Rattle.tenant_world.proofs.Acts.{ended-cells, moved-cells, remembers-agents, remembers-ended}
use Rattle.tenant_world.proofs.Remembering.{acted-after_move, acted-with_cells, some-same}
use Rattle.tenant_world.proofs.ending.accept.Goals as goal

pub returns-clause-acted : goal.returns-clause-acted
returns-clause-acted c = λ g q s' h run e is r hand running.
    let a = c.args.actor in
    let actor = actor_view c.args.state.now in
    let new = actor_view c.put_after.new.state in
    let old = c.args.memory.now in
    let prepared = record old { cells = record old.cells { agents = c.prepare_end.new.agents } } in
    let posted = c.post_effects.new.memory in
    let memory = record posted { cells = record posted.cells { agents = c.settle_end.new.agents } } in
    let end = finished_view c.args.finished.now in
    let k = hand_view c.in-Some.hand in
    let s = state_view c.in_ok-session.session in
    let kept = ap (option_map hand_view) c.in-Some.is in
    let same_hand : k ≡ h = some-same k h (sym kept ∙ hand) in
    let same_state : s ≡ actor_state a q = c.in_ok-session.ensures g s'.tenant q r in
    let m = form_ended k end s in
    let still = remembers-agents g s'.tenant old prepared q (refl, refl, refl, refl)
    (ap (λ x. with_agents x (cells_data old.cells)) c.prepare_end.ensures.same) r in
    let ends = c.in_ok-effects.ensures in
    let taken = c.in_ok-post_effects.ensures.taken g s'.tenant q m still ends.told in
    let before : cells_data posted.cells ≡ q.cells = taken.cells ∙ moved-cells a m q in
    let made = c.in_ok-end.ensures.made in
    let cells = ap (λ x. with_agents x (cells_data posted.cells)) c.settle_end.ensures
    ∙ ap (λ x. with_agents (agents_behind x (cells_data posted.cells).agents) (cells_data posted.cells)) made
    ∙ ap (λ x. with_agents (agents_behind (action_end a k (end_view x)) (cells_data posted.cells).agents)
    (cells_data posted.cells)) c.end.ensures
    ∙ ap (λ x. with_agents (agents_behind (action_end a k end.result) x.agents) x) before in
    let E : EndData → WorkInHand → CellsData = λ x y.
    with_agents (agents_behind (action_end a y x.result) q.cells.agents) q.cells in
    let behind = cells ∙ ap (λ y. E end y) same_hand ∙ ap (λ x. E x h) (sym is)
    ∙ ended-cells a h run e q.cells running in
    let later = with_cells_ended a h run e q in
    let now = remembers-ended g s'.tenant posted memory a m q later.cells taken (refl, refl, refl, refl) behind in
    let put = c.put_after.ensures k kept ∙ ap (λ x. record actor { hand = x }) ends.hand in
    let here = acted-after_move g s'.tenant memory a actor new m form_finished later now put refl in
    let P : WorkInHand → EndData → StateData → Type 0 = λ x y z. AcceptsOutcome g s'.tenant a later
    (leaves (with_step_spent (after_move a actor (form_ended x y z) later)) form_finished) memory new form_finished in
    acted-with_cells g s'.tenant memory a new _ form_finished later.cells q
    (subst (P h e.end) same_state (subst (λ y. P h y s) (sym is) (subst (λ x. P x end s) same_hand here)))
