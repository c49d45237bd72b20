use Rattle.std.proofs.Common.{◌≡◌, ◌++◌, codes, drop, map, string_bytes}
use Rattle.value_data.specs.Inside.View.{view}
use Rattle.repl_values.specs.Print.{each_behind}
use Rattle.core_scalars.specs.Inside.Spelling.{text_spelled}
use Rattle.core_scalars.proofs.printing.spaced_text.Given as goal

abbrev pub invariant-loop-value : goal.invariant-loop-value
invariant-loop-value l =
    string_bytes l.text ++ each_behind (codes " ") (map (text_spelled l.spelling) (map view (drop l.value-index l.rest)))
    ≡ string_bytes l.initial.text ++ each_behind (codes " ") (map (text_spelled l.spelling) (map view l.rest))
