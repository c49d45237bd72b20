use Rattle.std.proofs.Common.{take}
use Rattle.value_data.specs.Inside.View.{views}
use Rattle.value_data.specs.Inside.Fits.{FitsItems}
use Rattle.value_data.proofs.node_measures.measure_of.Given as goal

abbrev pub invariant-loop-item : goal.invariant-loop-item
invariant-loop-item l = FitsItems l.measure (views (take l.item-index l.items))
