use Rattle.std.proofs.Common.{◌≡◌, ◌+◌, ◌*◌, ◌++◌, codes, drop, string_bytes}
use Rattle.value_data.proofs.Size.{nodes, items_nodes, pairs_nodes}
use Rattle.value_data.specs.Listed.{listed, items_of, pairs_listed, pairs_of}
use Rattle.value_data.specs.Inside.View.{view}
use Rattle.repl_values.specs.Print.{texts, pair_texts, each_behind}
use Rattle.repl_values.specs.Inside.Style.{spelling_of}
use Rattle.repl_values.proofs.print.+spell.Given as goal

abbrev pub decreases-spell : goal.decreases-spell
decreases-spell l = 2 * nodes (view l.value.now)

abbrev pub decreases-spell_items : goal.decreases-spell_items
decreases-spell_items l = 2 * items_nodes l.items.now.items + 1

abbrev pub decreases-spell_pairs : goal.decreases-spell_pairs
decreases-spell_pairs l = 2 * pairs_nodes l.pairs.now.pairs + 1

abbrev pub invariant-spell_items-loop-place : goal.invariant-spell_items-loop-place
invariant-spell_items-loop-place l =
    string_bytes l.out ++ each_behind (codes " ") (texts (spelling_of l.strings) (items_of (drop l.place (listed l.items.items))))
    ≡ string_bytes l.initial.out ++ each_behind (codes " ") (texts (spelling_of l.strings) (items_of (drop 1 (listed l.items.items))))

abbrev pub invariant-spell_pairs-loop-place : goal.invariant-spell_pairs-loop-place
invariant-spell_pairs-loop-place l =
    string_bytes l.out ++ each_behind (codes ", ") (pair_texts (spelling_of l.strings) (pairs_of (drop l.place (pairs_listed l.pairs.pairs))))
    ≡ string_bytes l.initial.out ++ each_behind (codes ", ") (pair_texts (spelling_of l.strings) (pairs_of (drop 1 (pairs_listed l.pairs.pairs))))
