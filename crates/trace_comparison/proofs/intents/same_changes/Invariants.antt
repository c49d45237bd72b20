use Rattle.std.proofs.Common.{◌≡◌, take, map}
use Rattle.repl_asks.specs.Inside.View.{change_view}
use Rattle.trace_comparison.proofs.intents.same_changes.Given as goal

abbrev pub invariant-loop-place : goal.invariant-loop-place
invariant-loop-place l = take l.place (map change_view l.left) ≡ take l.place (map change_view l.right)
