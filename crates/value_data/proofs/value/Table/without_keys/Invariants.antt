use Rattle.std.proofs.Common.{◌≡◌, drop}
use Rattle.value_data.specs.Inside.View.{items_view}
use Rattle.value_data.specs.Inside.Nodes.{entry_pairs, KeepsEdited}
use Rattle.value_data.specs.Put.{without_keys}
use Rattle.value_data.proofs.value.Table.without_keys.Given as goal

abbrev pub invariant-loop-key : goal.invariant-loop-key
invariant-loop-key l = record {
  so_far : without_keys (entry_pairs l.edited.entries) (items_view (drop l.key-index l.keys)) ≡ without_keys l.fn.self.pairs (items_view l.keys);
  keeps : KeepsEdited l.edited;
}
