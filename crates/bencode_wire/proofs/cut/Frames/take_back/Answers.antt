use Rattle.std.proofs.Common.{◌≡◌, ◌∷◌, length, reverse, sym, ap, ◌∙◌, subst}
use Rattle.std.specs.Prelude.{option_map}
use Rattle.bencode_wire.specs.Inside.View.{tree_view}
use Rattle.bencode_wire.specs.Inside.Reader.{live_frames_view}
use Rattle.bencode_wire.proofs.Unwinding.{Left, newest, outermost_room, reverse-last}
use Rattle.bencode_wire.proofs.cut.Frames.take_back.Goals as goal

pub reopen-requires-clause-within : goal.reopen-requires-clause-within
reopen-requires-clause-within c =
    let r = c.requires in
    outermost_room c.args.self.now c.in-Some.outermost r.0 r.1 (sym c.take.ensures.value ∙ c.in-Some.is) r.2

pub undo-first-requires-clause-changes : goal.undo-first-requires-clause-changes
undo-first-requires-clause-changes c =
    let r = c.requires in
    let l = c.loop-change in
    let left = c.pop.new.self.items in
    let change = c.in-Some-pop.change in
    let more : reverse l.self.changes.items ≡ change ∷ reverse left = ap reverse c.in-Some-pop.ensures.items ∙ reverse-last left change in
    let h : Left (change ∷ reverse left) (live_frames_view l.self) (option_map tree_view l.first) r.0 r.1 =
    subst (λ cs. Left cs (live_frames_view l.self) (option_map tree_view l.first) r.0 r.1) more (l.invariant.0 r.0 r.1 r.2) in
    let long : length r.0 ≡ length l.self.settled.items = r.2.1 ∙ sym l.invariant.3 in
    newest change (reverse left) r.0 (live_frames_view l.self) r.1 (length l.self.settled.items) h long
