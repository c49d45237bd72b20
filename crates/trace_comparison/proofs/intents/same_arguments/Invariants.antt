use Rattle.std.proofs.Common.{◌≡◌, take, map}
use Rattle.value_data.specs.Inside.View.{view}
use Rattle.trace_comparison.proofs.intents.same_arguments.Given as goal

abbrev pub invariant-loop-place : goal.invariant-loop-place
invariant-loop-place l = take l.place (map view l.left) ≡ take l.place (map view l.right)
