use Rattle.std.proofs.Common.{refl}
use Rattle.value_data.specs.Inside.Hash.{factor, addend}
use Rattle.value_data.proofs.node_measures.ItemsMeasure.of_none.Goals as goal

pub returns : goal.returns
unfolding factor addend
returns c = record { weighed = refl; nested = refl; all_plain = refl; factored = refl; added = refl }
