use Rattle.std.proofs.Common.{ℕ, ◌<◌, slice_index_or}
use Rattle.ref_history.specs.Changes.{SameRefs}
use Rattle.ref_table.specs.declared.placing.Placed.{Placed}
use Rattle.ref_table.proofs.placing.reserve_all.Given as goal

abbrev pub invariant-loop-place : goal.invariant-loop-place
invariant-loop-place g l = record {
  room : (n : ℕ) (d : Placed) → n < l.place-index
      → g.H.History.has_room l.history (slice_index_or l.placed n d).id;
  same : SameRefs (g.H.History.stands l.fn.history) (g.H.History.stands l.history);
}
