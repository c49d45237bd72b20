use Rattle.std.proofs.Common.{◌≡◌, List, ◌++◌, take, map}
use Rattle.bencode_wire.specs.Inside.View.{tree_view, entries_view}
use Rattle.bencode_wire.proofs.Views.{Entry}
use Rattle.bencode_wire.proofs.copy.+copy.Given as goal

abbrev pub invariant-copy_items-loop-item : goal.invariant-copy_items-loop-item
invariant-copy_items-loop-item l = map tree_view l.copies.items ≡ map tree_view (take l.item-index l.items.items)

abbrev pub invariant-copy_pairs-loop-key : goal.invariant-copy_pairs-loop-key
invariant-copy_pairs-loop-key l =
    (done : List Entry) × (l.pairs.entries ≡ done ++ l.key-iterator) × (entries_view l.copies.entries ≡ entries_view done)
