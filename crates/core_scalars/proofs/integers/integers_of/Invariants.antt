use Rattle.std.proofs.Common.{◌≡◌, map, drop, vec_len}
use Rattle.value_data.specs.Inside.View.{view}
use Rattle.core_scalars.specs.IntegerMeaning.{integers_in}
use Rattle.core_scalars.proofs.IntegerValues.{with_front}
use Rattle.core_scalars.proofs.integers.integers_of.Given as goal

abbrev pub invariant-loop-argument : goal.invariant-loop-argument
invariant-loop-argument l =
    (with_front l.integers.items (integers_in l.function (map view (drop l.argument-index l.args))) ≡ integers_in l.function (map view l.args))
    × (vec_len l.integers ≡ l.argument-index)
