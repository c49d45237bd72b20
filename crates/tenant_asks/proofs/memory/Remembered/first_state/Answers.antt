use Rattle.std.proofs.Common.{◌≡◌, IfOk, sym, subst}
use Rattle.repl_sessions.specs.Inside.StateView.{state_view}
use Rattle.server_rules.specs.Tenant.{actor_state}
use Rattle.server_rules.specs.Starting.{first_state}
use Rattle.server_rules.specs.declared.actor.Actor.{Actor}
use Rattle.tenant_asks.proofs.memory.Remembered.first_state.Goals as goal

pub returns-in-Session : goal.returns-in-Session
returns-in-Session c = λ g t q r.
    let P : Actor → Type 0 = λ a. IfOk c.state_of.result (λ s. state_view s ≡ actor_state a q) in
    let Q : Actor → Type 0 = λ a. IfOk c.state_of.result (λ s. state_view s ≡ first_state a q) in
    subst Q (sym c.in-Session.is) (subst P c.in-Session.is (c.state_of.ensures g t q r))
