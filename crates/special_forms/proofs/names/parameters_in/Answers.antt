use Rattle.std.proofs.Common.{◌≡◌, List, IfOk, option_map, map, ap, subst, ◌∙◌}
use Rattle.std.specs.Arc.{arc_str_bytes}
use Rattle.value_data.specs.Datum.{Datum}
use Rattle.special_forms.specs.Parameters.{parameters}
use Rattle.value_data.specs.Inside.View.{views}
use Rattle.special_forms.proofs.Shaping.{views-listed}
use Rattle.special_forms.proofs.names.parameters_in.Goals as goal

pub returns : goal.returns
returns c =
    let P : List Datum → Type 0 = λ ds. IfOk c.parameters_of.result (λ found. option_map (λ names. map arc_str_bytes names.items) found ≡ parameters ds) in
    subst P (ap views c.as_slice.ensures.value ∙ views-listed _ _ c.in_ok-items.ensures) c.parameters_of.ensures
