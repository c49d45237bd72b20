use Rattle.std.proofs.Common.{◌≡◌, take, map}
use Rattle.repl_asks.specs.Inside.View.{name_view}
use Rattle.trace_comparison.proofs.intents.same_names.Given as goal

abbrev pub invariant-loop-place : goal.invariant-loop-place
invariant-loop-place l = take l.place (map name_view l.left) ≡ take l.place (map name_view l.right)
