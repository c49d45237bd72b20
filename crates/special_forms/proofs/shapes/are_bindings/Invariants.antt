use Rattle.std.proofs.Common.{◌≡◌, ◌≤◌, ◌-◌, Bool, length, drop}
use Rattle.value_data.specs.Listed.{listed}
use Rattle.special_forms.specs.Shapes.{bound_forms}
use Rattle.special_forms.proofs.Shaping.{bound_if}
use Rattle.special_forms.proofs.shapes.are_bindings.Given as goal

-- what holds of those that are left holds of all
abbrev pub invariant-loop-place : goal.invariant-loop-place
invariant-loop-place l = record {
  within : l.place ≤ length (listed l.items.items);
  left : (t : Bool) → bound_forms (drop l.place (listed l.items.items)) ≡ bound_if t (drop l.place (listed l.items.items))
      → bound_forms (listed l.items.items) ≡ bound_if t (listed l.items.items);
}

abbrev pub decreases-loop-place : goal.decreases-loop-place
decreases-loop-place l = length (listed l.items.items) - l.place
