use Rattle.std.proofs.Common.{◌≡◌, take, map}
use Rattle.repl_asks.specs.Inside.View.{commute_view}
use Rattle.trace_comparison.proofs.intents.same_commutes.Given as goal

abbrev pub invariant-loop-place : goal.invariant-loop-place
invariant-loop-place l = take l.place (map commute_view l.left) ≡ take l.place (map commute_view l.right)
