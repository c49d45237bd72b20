use Rattle.std.proofs.Common.{◌≡◌, drop, map}
use Rattle.value_data.specs.Listed.{listed}
use Rattle.core_collections.specs.Inside.View.{indexed_view}
use Rattle.core_collections.specs.MapMeaning as meant
use Rattle.core_collections.proofs.changes.with_items.Given as goal

abbrev pub invariant-loop-index : goal.invariant-loop-index
invariant-loop-index l =
    meant.with_items (map indexed_view (drop l.index-index l.places)) (listed l.items.items) ≡ meant.with_items (map indexed_view l.places) (listed l.initial.items.items)
