use Rattle.std.proofs.Common.{◌≡◌, List, [], ◌∷◌, ◌++◌, map, take, sym, ap, ◌∙◌, arith}
use Rattle.std.proofs.lemmas.List.{map_push}
use Rattle.value_data.specs.Datum.{Datum}
use Rattle.value_data.specs.Inside.View.{view}
use Rattle.repl_values.specs.Inside.Rows.{pair_vectors}
use Rattle.repl_values.proofs.Places.{row-place}
use Rattle.repl_values.proofs.Values.{pair_vectors-next}
use Rattle.repl_values.proofs.row.copy_pairs.Goals as goal

pub loop-place-preserved : goal.loop-place-preserved
loop-place-preserved c =
    let place = c.loop-place.place in
    let key = row-place c.keys-keys.result.now.items _ place (view c.at.result.now) c.keys-keys.ensures c.at.ensures in
    let value = row-place c.values-values.result.now.items _ place (view c.at-in-loop-place.result.now) c.values-values.ensures c.at-in-loop-place.ensures in
    let next =
    pair_vectors-next c.args.pairs.now.pairs place (view c.at.result.now) (view c.at-in-loop-place.result.now)
    (omega (arith, c.len-place-end.ensures.count, c.loop-place-test.true)) key value in
    let pushed : map view c.push.new.self.items ≡ map view c.loop-place.copies.items ++ view c.in_ok-pair_as_vector.field-0 ∷ [] = ap (map view) c.in_ok-push.ensures.items ∙ map_push view c.loop-place.copies.items c.in_ok-pair_as_vector.field-0 in
    pushed
    ∙ ap (λ (ds : List Datum). ds ++ view c.in_ok-pair_as_vector.field-0 ∷ []) c.loop-place.invariant
    ∙ ap (λ (d : Datum). take place (pair_vectors c.args.pairs.now.pairs) ++ d ∷ []) c.in_ok-pair_as_vector.ensures
    ∙ sym next
