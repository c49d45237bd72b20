use Rattle.std.proofs.Common.{◌∙◌, ap, subst}
use Rattle.repl_sessions.specs.Inside.StateView.{state_view}
use Rattle.server_rules.specs.Tenant.{with_state, with_replies}
use Rattle.tenant_asks.specs.Memories.{Remembers}
use Rattle.tenant_asks.proofs.Remembering.{replies-behind-state}
use Rattle.tenant_asks.proofs.memory.Remembered.post_with_state.Goals as goal

pub returns-clause-taken : goal.returns-clause-taken
returns-clause-taken c = λ g t q m r replies remembered.
    let a = c.args.actor in
    let state = state_view c.args.state in
    let posted = c.in_ok-post.ensures.posted g t q m.replies r replies in
    let put = c.put_state.ensures.put g t (with_replies m.replies q) posted in
    subst (Remembers g t c.put_state.new.self)
    (replies-behind-state a state m.replies q
    ∙ ap (λ s. with_replies m.replies (with_state a s q)) remembered)
    put
