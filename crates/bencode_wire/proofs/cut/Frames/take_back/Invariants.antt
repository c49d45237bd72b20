use Rattle.std.proofs.Common.{◌≡◌, List, [], length, reverse, None, option_map, Option}
use Rattle.bencode_wire.specs.Tree.{Tree}
use Rattle.bencode_wire.specs.Inside.Cut as cuts
use Rattle.bencode_wire.specs.Inside.View.{tree_view}
use Rattle.bencode_wire.specs.Inside.Reader.{live_frames_view}
use Rattle.bencode_wire.specs.Inside.Undoing.{WereBefore}
use Rattle.bencode_wire.proofs.Unwinding.{Left}
use Rattle.bencode_wire.proofs.cut.Frames.take_back.Given as goal

abbrev pub invariant-loop-change : goal.invariant-loop-change
invariant-loop-change l =
    ((before : List cuts.OpenContainer) (first : Option Tree) → WereBefore l.fn.self before first
    → Left (reverse l.self.changes.items) (live_frames_view l.self) (option_map tree_view l.first) before first)
    × (l.self.ended ≡ None) × (l.self.fresh.items ≡ []) × (length l.self.settled.items ≡ length l.fn.self.settled.items)

abbrev pub decreases-loop-change : goal.decreases-loop-change
decreases-loop-change l = length l.self.changes.items
