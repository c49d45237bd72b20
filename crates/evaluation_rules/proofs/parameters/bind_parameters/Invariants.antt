use Rattle.std.proofs.Common.{◌≡◌, [], map, drop}
use Rattle.std.specs.Arc.{arc_str_bytes}
use Rattle.evaluation_rules.specs.Applying.{bound_to}
use Rattle.value_data.specs.Inside.View.{views}
use Rattle.evaluation_rules.proofs.parameters.bind_parameters.Given as goal

abbrev pub invariant-loop-name : goal.invariant-loop-name
invariant-loop-name l =
    bound_to l.locals (map arc_str_bytes (drop l.name-index l.params)) (views l.values.items)
    ≡ bound_to [] (map arc_str_bytes l.params) (views l.initial.values.items)
