use Rattle.std.proofs.Common.{◌≡◌, ◌<◌, ◌≤◌, ◌+◌, ◌-◌, ℕ, length}
use Rattle.version_rings.specs.Inside.Parts.{upper_at}
use Rattle.version_rings.proofs.halves.put_upper.Given as goal

abbrev pub decreases-loop-uppers : goal.decreases-loop-uppers
decreases-loop-uppers l = l.place + 1 - length l.uppers.items

-- what is put behind all is 0
abbrev pub invariant-loop-uppers : goal.invariant-loop-uppers
invariant-loop-uppers l = record {
  same : (n : ℕ) → upper_at l.uppers.items n ≡ upper_at l.initial.uppers.items n;
  few : (most : ℕ) → l.place < most → length l.initial.uppers.items ≤ most
      → length l.uppers.items ≤ most;
  fitting : length l.uppers.items + l.uppers.room
      ≡ length l.initial.uppers.items + l.initial.uppers.room;
}
