use Rattle.std.proofs.Common.{◌≡◌, ◌++◌, take}
use Rattle.value_data.specs.Inside.View.{views}
use Rattle.value_data.proofs.reads.push_copies.Given as goal

abbrev pub invariant-loop-item : goal.invariant-loop-item
invariant-loop-item l = views l.copies.items ≡ views l.initial.copies.items ++ views (take l.item-index l.items)
