use Rattle.std.proofs.Common.{◌≡◌, ◌++◌, take}
use Rattle.value_data.specs.Inside.View.{views}
use Rattle.value_data.proofs.copies.share_both.Given as goal

abbrev pub invariant-loop-item : goal.invariant-loop-item
invariant-loop-item l = views l.copies.items ≡ views l.first ++ views (take l.item-index l.second)
