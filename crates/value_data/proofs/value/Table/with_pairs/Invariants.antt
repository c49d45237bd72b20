use Rattle.std.proofs.Common.{◌≡◌, drop, map}
use Rattle.value_data.specs.Inside.Nodes.{entry_pairs, KeepsEdited}
use Rattle.value_data.specs.Put.{put_pairs}
use Rattle.value_data.specs.Inside.Seen.{entry_view}
use Rattle.value_data.proofs.value.Table.with_pairs.Given as goal

abbrev pub invariant-loop-key : goal.invariant-loop-key
invariant-loop-key l = record {
  so_far : put_pairs (entry_pairs l.edited.entries) (map entry_view (drop l.key-index l.more)) ≡ put_pairs l.fn.self.pairs (map entry_view l.more);
  keeps : KeepsEdited l.edited;
}
