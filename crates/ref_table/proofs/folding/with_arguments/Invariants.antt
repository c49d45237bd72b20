use Rattle.std.proofs.Common.{◌≡◌, ◌∷◌, ◌++◌, map, drop}
use Rattle.value_data.specs.Inside.View.{view}
use Rattle.ref_table.proofs.folding.with_arguments.Given as goal

abbrev pub invariant-loop-argument : goal.invariant-loop-argument
invariant-loop-argument l = map view l.values.items ++ map view (drop l.argument-index l.arguments)
    ≡ view l.fn.value ∷ map view l.arguments
