use Rattle.std.proofs.Common.{◌≡◌, take, map}
use Rattle.value_data.specs.Inside.View.{view}
use Rattle.value_data.specs.declared.value.Value.{Value}
use Rattle.repl_values.proofs.repeats.first_repeated.Given as goal

abbrev pub invariant-loop-key : goal.invariant-loop-key
invariant-loop-key l = map (λ (p : Value × Value). view p.0) l.pairs.items ≡ map view (take l.key-index l.keys)
