use Rattle.std.proofs.Common.{◌≡◌, take, map}
use Rattle.repl_asks.specs.Inside.View.{sending_view}
use Rattle.trace_comparison.proofs.sends.same_sends.Given as goal

abbrev pub invariant-loop-place : goal.invariant-loop-place
invariant-loop-place l = take l.place (map sending_view l.left) ≡ take l.place (map sending_view l.right)
