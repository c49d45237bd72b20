use Rattle.std.proofs.Common.{IfOk, ◌∙◌, ap, sym, subst, option_map}
use Rattle.value_data.specs.Inside.View.{view}
use Rattle.repl_sessions.specs.Inside.StateView.{state_view}
use Rattle.tenant_parts.specs.View.{hand_view}
use Rattle.tenant_moves.specs.Starts.{StartsForm}
use Rattle.tenant_moves.proofs.Begins.{first-begins}
use Rattle.tenant_moves.proofs.starting.next_form.Goals as goal

pub returns-in-Some : goal.returns-in-Some
returns-in-Some c = λ g same.
    let h = hand_view c.args.hand.now in
    let first = sym c.first_form.ensures ∙ ap (option_map (λ v. view v.now)) c.in-Some.is in
    subst (λ s. IfOk c.run_form.result (StartsForm s h))
    (first-begins g h (state_view c.args.state) h.forms _ first) (c.run_form.ensures g same)
