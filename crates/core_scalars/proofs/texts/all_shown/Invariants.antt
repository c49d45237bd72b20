use Rattle.std.proofs.Common.{◌≡◌, ◌++◌, drop, map, flat_map, string_bytes}
use Rattle.value_data.specs.Inside.View.{view}
use Rattle.core_scalars.specs.TextMeaning.{shown_text}
use Rattle.core_scalars.proofs.texts.all_shown.Given as goal

abbrev pub invariant-loop-value : goal.invariant-loop-value
invariant-loop-value l =
    string_bytes l.text ++ flat_map shown_text (map view (drop l.value-index l.values)) ≡ flat_map shown_text (map view l.values)
