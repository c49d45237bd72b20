use Rattle.std.proofs.Common.{◌≡◌, ◌<◌, ◌≤◌, ◌++◌, append_assoc, arith, rules, codes, length, string_bytes}
use Rattle.value_data.specs.Listed.{listed}
use Rattle.value_data.specs.Same.{size}
use Rattle.value_data.specs.Inside.View.{view}
use Rattle.repl_values.specs.Inside.Style.{spelling_of}
use Rattle.repl_values.proofs.Joining.{joined-whole, joined-next, joined-pairs, pair_spelled}
use Rattle.repl_values.proofs.Places.{row-place}
use Rattle.repl_values.proofs.print.+spell.Goals as goal

pub spell_items-returns : goal.spell_items-returns
spell_items-returns t c =
    let some : 0 < length (listed c.args.items.now.items) = search rules in
    let all : length (listed c.args.items.now.items) ≤ c.loop-place.place = omega (arith, c.len-place-end.ensures.count, c.loop-place-test.false) in
    joined-whole (spelling_of c.args.strings) (codes " ") c.args.items.now.items (view c.at.result.now) c.loop-place.place (string_bytes c.args.out.now)
    (string_bytes c.spell.new.out) (string_bytes c.loop-place.out) c.at.ensures some all c.in_ok-spell.ensures c.loop-place.invariant

pub spell_pairs-loop-place-preserved : goal.spell_pairs-loop-place-preserved
spell_pairs-loop-place-preserved t c =
    let place = c.loop-place.place in
    let key = row-place c.keys-keys.result.now.items _ place (view c.at-in-loop-place.result.now) c.keys-keys.ensures c.at-in-loop-place.ensures in
    let value = row-place c.values-values.result.now.items _ place (view c.at-in-loop-place-2.result.now) c.values-values.ensures c.at-in-loop-place-2.ensures in
    let within : place < size c.args.pairs.now.pairs = omega (arith, c.len-place-end.ensures.count, c.loop-place-test.true) in
    let more : string_bytes c.spell-in-loop-place-2.new.out ≡ string_bytes c.loop-place.out
    ++ (codes ", " ++ pair_spelled (spelling_of c.args.strings) (codes ", ") (view c.at-in-loop-place.result.now) (view c.at-in-loop-place-2.result.now)) = search (rules, append_assoc) in
    joined-next (spelling_of c.args.strings) (codes ", ") c.args.pairs.now.pairs (view c.at-in-loop-place.result.now) (view c.at-in-loop-place-2.result.now) place
    (string_bytes c.loop-place.out) (string_bytes c.spell-in-loop-place-2.new.out) _ key value within more c.loop-place.invariant

pub spell_pairs-returns : goal.spell_pairs-returns
spell_pairs-returns t c =
    let key = row-place c.keys-keys.result.now.items _ 0 (view c.at.result.now) c.keys-keys.ensures c.at.ensures in
    let value = row-place c.values-values.result.now.items _ 0 (view c.at-2.result.now) c.values-values.ensures c.at-2.ensures in
    let some : 0 < size c.args.pairs.now.pairs = search rules in
    let all : size c.args.pairs.now.pairs ≤ c.loop-place.place = omega (arith, c.len-place-end.ensures.count, c.loop-place-test.false) in
    let begun : string_bytes c.spell-2.new.out ≡ string_bytes c.args.out.now
    ++ pair_spelled (spelling_of c.args.strings) (codes ", ") (view c.at.result.now) (view c.at-2.result.now) = search (rules, append_assoc) in
    joined-pairs (spelling_of c.args.strings) (codes ", ") c.args.pairs.now.pairs (view c.at.result.now) (view c.at-2.result.now) c.loop-place.place
    (string_bytes c.args.out.now) (string_bytes c.spell-2.new.out) (string_bytes c.loop-place.out) key value some all begun c.loop-place.invariant
