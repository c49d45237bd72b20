use Rattle.std.proofs.Common.{◌≡◌, ◌+◌, ◌-◌, ℕ, length}
use Rattle.ref_history.specs.Rung.{ref_at, reserved_in}
use Rattle.ref_history.proofs.ring_ref.put_at.Given as goal

abbrev pub decreases-loop-refs : goal.decreases-loop-refs
decreases-loop-refs l = l.place + 1 - length l.refs.items

-- what is put behind all is nothing
abbrev pub invariant-loop-refs : goal.invariant-loop-refs
invariant-loop-refs l = record {
  same : (n : ℕ) → ref_at l.refs.items n ≡ ref_at l.initial.refs.items n;
  fewer : reserved_in l.refs.items ≡ reserved_in l.initial.refs.items;
}
