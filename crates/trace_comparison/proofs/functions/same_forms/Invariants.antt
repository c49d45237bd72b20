use Rattle.std.proofs.Common.{◌≡◌, take}
use Rattle.special_forms.specs.Inside.Seen.{forms_view}
use Rattle.trace_comparison.proofs.functions.same_forms.Given as goal

abbrev pub invariant-loop-place : goal.invariant-loop-place
invariant-loop-place l = take l.place (forms_view l.left) ≡ take l.place (forms_view l.right)
