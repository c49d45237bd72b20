use Rattle.std.proofs.Common.{◌≡◌, take, map}
use Rattle.std.specs.Arc.{arc_str_bytes}
use Rattle.trace_comparison.proofs.functions.same_names.Given as goal

abbrev pub invariant-loop-place : goal.invariant-loop-place
invariant-loop-place l = take l.place (map arc_str_bytes l.left) ≡ take l.place (map arc_str_bytes l.right)
