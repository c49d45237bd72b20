use Rattle.std.specs.Vec.Iter.{into_iter_items}
use Rattle.ref_table.specs.Placing.{HaveRoom, AddsAll}
use Rattle.ref_table.proofs.placing.add_all.Given as goal

abbrev pub invariant-loop-place : goal.invariant-loop-place
invariant-loop-place g l = record {
  room : HaveRoom g.H.History.has_room l.history (into_iter_items l.place-iterator);
  leads : (new : _) → AddsAll g.H.History.stands l.stamp l.history (into_iter_items l.place-iterator) new
      → AddsAll g.H.History.stands l.stamp l.fn.history l.fn.placed.items new;
}
