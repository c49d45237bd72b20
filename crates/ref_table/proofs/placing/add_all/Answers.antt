use Rattle.std.proofs.Common.{◌≡◌, ◌∷◌, sym, subst}
use Rattle.std.specs.Vec.Iter.{into_iter_items}
use Rattle.ref_table.specs.Placing.{HaveRoom, AddsAll}
use Rattle.ref_table.proofs.Rooms.{rooms-kept}
use Rattle.ref_table.proofs.placing.add_all.Goals as goal

pub loop-place-preserved : goal.loop-place-preserved
loop-place-preserved g c =
    let steps : into_iter_items c.loop-place.place-iterator
    ≡ c.in-Some.place ∷ into_iter_items c.next.new.self = c.in-Some.ensures.steps.0 in
    let room = subst (λ ps. HaveRoom g.H.History.has_room c.loop-place.history ps) steps
    c.loop-place.invariant.room in
    record {
      room = rooms-kept g.H.History.has_room c.loop-place.history c.add_version.new.self
          c.in-Some.place.id _ c.add_version.ensures.rooms room.1 room.2;
      leads = λ new adds. c.loop-place.invariant.leads new
          (subst (λ ps. AddsAll g.H.History.stands c.args.stamp c.loop-place.history ps new)
          (sym steps) (c.add_version.new.self, c.add_version.ensures.added, adds));
    }
