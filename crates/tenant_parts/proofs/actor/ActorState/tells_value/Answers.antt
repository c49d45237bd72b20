use Rattle.std.proofs.Common.{◌≡◌, ◌∙◌, ◌==◌, List, [], ◌∷◌, length, option_map, refl, sym, ap}
use Rattle.std.proofs.Math.Dec.{eqb-suc-zero}
use Rattle.value_data.specs.Datum.{Datum}
use Rattle.value_data.specs.Inside.View.{view, items_view}
use Rattle.value_data.specs.declared.value.Value.{Value}
use Rattle.server_rules.specs.Request.{last_form}
use Rattle.tenant_parts.specs.Ahead.{told_in, told_of}
use Rattle.tenant_parts.specs.States.{hand_view, manner_view}
use Rattle.tenant_parts.proofs.actor.ActorState.tells_value.Goals as goal

none-told : (d : Datum) (vs : List Value) → (length vs == 0) ≡ told_in (last_form d) (items_view vs)
none-told d [] = refl
none-told d (v ∷ vs) = eqb-suc-zero (length vs)

pub returns-in-LastForm : goal.returns-in-LastForm
returns-in-LastForm c =
    let forms = c.in-Some.hand.forms in
    c.is_empty.ensures
    ∙ ap (λ n. n == 0) forms.ok.0
    ∙ none-told (view c.in-LastForm.field-0) forms.items
    ∙ sym (ap (λ m. told_in (manner_view m) (items_view forms.items)) c.in-LastForm.is)
    ∙ sym (ap (λ h. told_of (option_map hand_view h)) c.in-Some.is)
