use Rattle.std.proofs.Common.{◌≡◌, map, drop}
use Rattle.std.specs.Arc.{arc_str_bytes}
use Rattle.special_forms.specs.Parameters.{parameter_names}
use Rattle.value_data.specs.Inside.View.{views}
use Rattle.special_forms.proofs.Shaping.{with_front}
use Rattle.special_forms.proofs.names.parameter_names.Given as goal

abbrev pub invariant-loop-item : goal.invariant-loop-item
invariant-loop-item l =
    with_front (map arc_str_bytes l.names.items) (parameter_names (views (drop l.item-index l.items))) ≡ parameter_names (views l.items)
