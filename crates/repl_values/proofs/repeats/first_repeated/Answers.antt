use Rattle.std.proofs.Common.{List, map, ap, ◌∙◌, arith}
use Rattle.value_data.specs.Inside.View.{view, pairs_view}
use Rattle.value_data.specs.Repeats.{first_repeat}
use Rattle.value_data.specs.declared.value.Value.{Value}
use Rattle.value_data.proofs.Removing.{keys-view, take-past}
use Rattle.repl_values.proofs.repeats.first_repeated.Goals as goal

pub returns : goal.returns
returns c =
    c.repeated_place.ensures (pairs_view c.loop-key.pairs.items) c.in_ok-from_pairs.ensures
    ∙ ap first_repeat
    (keys-view c.loop-key.pairs.items c.args.keys.now
    (c.loop-key.invariant ∙ ap (λ (vs : List Value). map view vs) (take-past c.args.keys.now c.loop-key.key-index (omega (arith, c.loop-key-test.false)))))
