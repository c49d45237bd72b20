use Rattle.std.proofs.Common.{◌≡◌, ◌≤◌, ◌-◌}
use Rattle.paged_list.proofs.paged_row.PagedRow.make_room.Given as goal

abbrev pub decreases-loop-self : goal.decreases-loop-self
decreases-loop-self g l = l.count - l.self.room

-- only the room becomes more
abbrev pub invariant-loop-self : goal.invariant-loop-self
invariant-loop-self g l = record {
  items : l.self.items ≡ l.initial.self.items;
  more : l.initial.self.room ≤ l.self.room;
}
