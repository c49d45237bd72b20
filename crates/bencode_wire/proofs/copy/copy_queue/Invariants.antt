use Rattle.std.proofs.Common.{◌≡◌, take, map}
use Rattle.bencode_wire.specs.Inside.View.{tree_view}
use Rattle.bencode_wire.proofs.copy.copy_queue.Given as goal

abbrev pub invariant-loop-at : goal.invariant-loop-at
invariant-loop-at l = map tree_view l.copies.items ≡ map tree_view (take l.at l.values.items)
