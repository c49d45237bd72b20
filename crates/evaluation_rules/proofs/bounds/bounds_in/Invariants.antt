use Rattle.std.proofs.Common.{◌≡◌, length}
use Rattle.value_data.specs.Inside.View.{views}
use Rattle.evaluation_rules.specs.Arguments as meant
use Rattle.evaluation_rules.specs.Inside.View.{bounds_view}
use Rattle.evaluation_rules.proofs.bounds.bounds_in.Given as goal

-- what is left, from the bounds so far, comes to what all options come to
abbrev pub invariant-loop-left : goal.invariant-loop-left
invariant-loop-left l =
    meant.bounds_in (bounds_view l.bounds) (views l.left) ≡ meant.bounds_in meant.usual_bounds (views l.options)

abbrev pub decreases-loop-left : goal.decreases-loop-left
decreases-loop-left l = length l.left
