use Rattle.std.proofs.Common.{◌≡◌, ◌≤◌, ◌-◌, ◌∷◌, take, length, sym, ap, ◌∙◌, subst, rules}
use Rattle.bencode_wire.specs.Inside.Reader.{frames_view, frame_view, live_frames_view}
use Rattle.bencode_wire.specs.Inside.Places.{WasPut}
use Rattle.bencode_wire.proofs.Removals.{some_live}
use Rattle.bencode_wire.proofs.Stacks.{innermost_of, innermost_set}
use Rattle.bencode_wire.proofs.cut.Frames.take_out.Goals as goal

pub take_from-requires : goal.take_from-requires
take_from-requires c =
    let f = c.args.self.now in
    let r = c.requires in
    let within : f.live ≤ length f.settled.items = search rules in
    let outer = frames_view (take (f.live - 1) f.settled.items) in
    let was : live_frames_view f ≡ frame_view c.index_mut.result.now ∷ outer =
    innermost_of f.settled.items f.live c.index_mut.result.now (some_live f.live f.settled.items c.args.place r.1 r.0 r.2) within ∙ ap (λ x. frame_view x ∷ outer) (sym c.index_mut.ensures.value) in
    (outer, r.0, r.1, subst (λ fs. WasPut c.args.place r.1 r.0 fs) was r.2)

pub returns-clause-back : goal.returns-clause-back
returns-clause-back c = λ before t put.
    let f = c.args.self.now in
    let some = some_live f.live f.settled.items c.args.place t before put in
    let within : f.live ≤ length f.settled.items = search rules in
    let outer = frames_view (take (f.live - 1) f.settled.items) in
    let was : live_frames_view f ≡ frame_view c.index_mut.result.now ∷ outer =
    innermost_of f.settled.items f.live c.index_mut.result.now some within ∙ ap (λ x. frame_view x ∷ outer) (sym c.index_mut.ensures.value) in
    let out = c.take_from.ensures outer before t (subst (λ fs. WasPut c.args.place t before fs) was put) in
    (innermost_set f.settled.items f.live c.take_from.new.container some within ∙ sym out.0, out.1)
