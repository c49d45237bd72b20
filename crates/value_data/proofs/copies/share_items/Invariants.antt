use Rattle.std.proofs.Common.{◌≡◌, ◌+◌, ◌≤◌, take, length, vec_len, vec_capacity}
use Rattle.value_data.specs.Inside.View.{views}
use Rattle.value_data.specs.Inside.Nodes.{items_held}
use Rattle.value_data.proofs.copies.share_items.Given as goal

abbrev pub invariant-loop-item : goal.invariant-loop-item
invariant-loop-item l = record {
  so_far : views l.copies.items ≡ views (take l.item-index l.items);
  same_size : items_held l.copies.items ≡ items_held (take l.item-index l.items);
  room : vec_len l.copies + length l.items ≤ vec_capacity l.copies + l.item-index;
}
