use Rattle.std.proofs.Common.{◌≡◌, ◌∙◌, refl, sym, ap, option_map, unwrap_or}
use Rattle.std.proofs.lemmas.Result.{IfOk-weaker}
use Rattle.value_data.proofs.Views.{view-Nil}
use Rattle.value_data.specs.Datum.{nil}
use Rattle.repl_sessions.specs.Inside.StateView.{state_view}
use Rattle.repl_sessions.specs.State.{fresh}
use Rattle.name_spaces.specs.declared.latest.Latest.{Latest}
use Rattle.server_rules.specs.Asking.{latest_of}
use Rattle.tenant_asks.proofs.naming.latest_value.Goals as goal

-- what is read of a fresh session
fresh-latest : (latest : Latest) → nil ≡ latest_of latest fresh
fresh-latest Latest.One = refl
fresh-latest Latest.Two = refl
fresh-latest Latest.Three = refl
fresh-latest Latest.Fault = refl

pub returns-in-Some : goal.returns-in-Some
returns-in-Some c = λ g t q r.
    IfOk-weaker c.copy.result _ _ (λ x same. same ∙ c.latest_of.ensures
    ∙ ap (latest_of c.args.latest)
    (ap (λ o. unwrap_or (option_map (λ s. state_view s.now) o) fresh) (sym c.in-Some.is)
    ∙ c.shown.ensures g t q r)) c.copy.ensures

pub returns-in-None : goal.returns-in-None
returns-in-None c = λ g t q r.
    view-Nil ∙ fresh-latest c.args.latest
    ∙ ap (latest_of c.args.latest)
    (ap (λ o. unwrap_or (option_map (λ s. state_view s.now) o) fresh) (sym c.in-None.is)
    ∙ c.shown.ensures g t q r)
