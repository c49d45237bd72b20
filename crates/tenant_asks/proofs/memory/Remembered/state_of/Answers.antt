use Rattle.std.proofs.Common.{◌∙◌, sym, ap, option_map, unwrap_or}
use Rattle.std.proofs.lemmas.Result.{IfOk-weaker}
use Rattle.repl_sessions.specs.Inside.StateView.{state_view}
use Rattle.repl_sessions.specs.State.{fresh}
use Rattle.tenant_asks.proofs.memory.Remembered.state_of.Goals as goal

pub returns-in-Some : goal.returns-in-Some
returns-in-Some c = λ g t q r.
    IfOk-weaker c.copy.result _ _ (λ x same. same
    ∙ ap (λ o. unwrap_or (option_map (λ s. state_view s.now) o) fresh) (sym c.in-Some.is)
    ∙ c.shown.ensures g t q r) c.copy.ensures

pub returns-in-None : goal.returns-in-None
returns-in-None c = λ g t q r.
    IfOk-weaker c.fresh.result _ _ (λ x same. same
    ∙ ap (λ o. unwrap_or (option_map (λ s. state_view s.now) o) fresh) (sym c.in-None.is)
    ∙ c.shown.ensures g t q r) c.fresh.ensures
