use Rattle.std.proofs.Common.{◌∙◌, ap}
use Rattle.repl_sessions.specs.State.{StateData}
use Rattle.tenant_world.proofs.tenant.Tenant.session_namespace.Goals as goal

pub returns-in-Ok : goal.returns-in-Ok
returns-in-Ok c = λ g q s st.
    c.in-Ok.ensures
    ∙ ap (λ (x : StateData). x.namespace) (c.in_ok-shown.ensures g s.tenant q st.remembers)
