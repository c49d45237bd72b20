use Rattle.std.proofs.Common.{◌<◌, length, sym, arith}
use Rattle.value_data.specs.Inside.View.{views}
use Rattle.walker_machine.proofs.Collecting.{if_ok-part}
use Rattle.walker_machine.proofs.Collecting.{made-of, repeats-of, map_value-made, repeat-within-keys, map_value-repeated}
use Rattle.walker_machine.proofs.collect.map_of.Goals as goal

pub returns-in-Made-clause-meaning : goal.returns-in-Made-clause-meaning
returns-in-Made-clause-meaning c =
    let made = made-of _ _ _ c.in_ok-pairs.ensures c.in-Made.is in
    let same = map_value-made (views c.args.values.items) _ _ c.in_ok-keys.ensures.pairs made.0 made.1 in
    if_ok-part _ _ _ (sym same) c.within_limits.ensures.meaning

pub index-requires : goal.index-requires
index-requires c =
    let repeats = repeats-of _ _ _ c.in_ok-pairs.ensures c.in-Repeats.is in
    let within : c.in-Repeats.place < length c.in_ok-keys.field-0.keys.items = repeat-within-keys (views c.args.values.items) _ _ _ c.in_ok-keys.ensures.keys c.in_ok-keys.ensures.pairs repeats in
    omega (arith, within, c.in_ok-keys.field-0.keys.ok)

pub returns-clause-meaning : goal.returns-clause-meaning
returns-clause-meaning c =
    let repeats = repeats-of _ _ _ c.in_ok-pairs.ensures c.in-Repeats.is in
    λ s. map_value-repeated (views c.args.values.items) _ _ _ c.index.result.now _ s c.in_ok-keys.ensures.keys c.in_ok-keys.ensures.pairs repeats
    c.index.ensures c.in_ok-duplicate_key-in-Repeats.ensures
