use Rattle.std.proofs.Common.{◌≡◌, ◌++◌, drop, take, length}
use Rattle.bencode_wire.specs.Inside.View.{trees_view, entries_view}
use Rattle.bencode_wire.specs.Spelling.{trees_text, pairs_text, sorted_trees, AreSpellable, ArePairs}
use Rattle.bencode_wire.proofs.Views.{each_sorted}
use Rattle.bencode_wire.proofs.write.+spell.Given as goal

abbrev pub invariant-spell_items-loop-item : goal.invariant-spell_items-loop-item
invariant-spell_items-loop-item l = record {
  front : take (length l.initial.out.items) l.out.items ≡ l.initial.out.items;
  fits : AreSpellable (trees_view (drop l.item-index l.items)) → AreSpellable (trees_view l.items);
  text : l.out.items ++ trees_text (sorted_trees (trees_view (drop l.item-index l.items))) ≡ l.initial.out.items ++ trees_text (sorted_trees (trees_view l.items));
}

abbrev pub invariant-spell_pairs-loop-key : goal.invariant-spell_pairs-loop-key
invariant-spell_pairs-loop-key l = record {
  front : take (length l.initial.out.items) l.out.items ≡ l.initial.out.items;
  fits : ArePairs (entries_view l.key-iterator) → ArePairs (entries_view l.pairs.entries);
  text : l.out.items ++ pairs_text (each_sorted (entries_view l.key-iterator)) ≡ l.initial.out.items ++ pairs_text (each_sorted (entries_view l.pairs.entries));
}
