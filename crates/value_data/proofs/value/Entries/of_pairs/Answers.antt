use Rattle.std.proofs.Common.{map, ap, arith}
use Rattle.std.proofs.lemmas.List.{nil_from_length}
use Rattle.value_data.specs.Inside.View.{pair_view}
use Rattle.value_data.proofs.Ascending.{parted-even, parted-whole}
use Rattle.value_data.proofs.value.Entries.of_pairs.Goals as goal

pub invariant_of-result : goal.invariant_of-result
invariant_of-result c =
    let none = ap (λ xs. map pair_view xs) (nil_from_length c.loop-key.key-iterator.rest.items (omega (arith, c.loop-key.key-iterator.rest.ok, c.in-None.ensures.steps))) in
    parted-even c.loop-key.keys.items c.loop-key.values.items (map pair_view c.loop-key.key-iterator.rest.items) (map pair_view c.args.pairs.items) none
    c.loop-key.invariant.keys c.loop-key.invariant.values c.in_ok-from_vec.field-0.items c.in_ok-from_vec-2.field-0.items c.in_ok-from_vec.ensures c.in_ok-from_vec-2.ensures

pub returns : goal.returns
returns c =
    let none = ap (λ xs. map pair_view xs) (nil_from_length c.loop-key.key-iterator.rest.items (omega (arith, c.loop-key.key-iterator.rest.ok, c.in-None.ensures.steps))) in
    parted-whole c.loop-key.keys.items c.loop-key.values.items (map pair_view c.loop-key.key-iterator.rest.items) (map pair_view c.args.pairs.items) none
    c.loop-key.invariant.keys c.loop-key.invariant.values c.in_ok-from_vec.field-0.items c.in_ok-from_vec-2.field-0.items c.in_ok-from_vec.ensures c.in_ok-from_vec-2.ensures
