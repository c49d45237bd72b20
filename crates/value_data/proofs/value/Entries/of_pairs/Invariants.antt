use Rattle.std.proofs.Common.{◌≡◌, ◌++◌, map}
use Rattle.value_data.specs.Inside.View.{view, pair_view}
use Rattle.value_data.specs.Inside.Seen.{key_in, value_of_pair}
use Rattle.value_data.proofs.value.Entries.of_pairs.Given as goal

abbrev pub invariant-loop-key : goal.invariant-loop-key
invariant-loop-key l = record {
  keys : map view l.keys.items ++ map key_in (map pair_view l.key-iterator.rest.items) ≡ map key_in (map pair_view l.fn.pairs.items);
  values : map view l.values.items ++ map value_of_pair (map pair_view l.key-iterator.rest.items) ≡ map value_of_pair (map pair_view l.fn.pairs.items);
}
