-- A part of a value weighs less than the value, and is nested less deep.
use Rattle.std.proofs.Common.{◌≡◌, ◌<◌, ◌≤◌, ap, ⊎_elim, arith}
use Rattle.value_data.specs.Datum.{Datum, list, vector, map, Items, no_items, item, Pairs, no_pairs, pair}
use Rattle.value_data.specs.Measures.{weight, items_weight, pairs_weight, nesting, items_nesting, pairs_nesting}
use Rattle.repl_values.specs.Inside.Parts.{IsItemOf, IsKeyOrValueOf, IsPartOf}

item-weight : (d : Datum) (ds : Items) → IsItemOf d ds → weight d ≤ items_weight ds
item-weight d no_items h = absurd h
item-weight d (item e ds) h =
    ⊎_elim (λ (is : d ≡ e). omega (arith, ap weight is)) (λ (rest : IsItemOf d ds). omega (arith, item-weight d ds rest)) h

pair-weight : (d : Datum) (ps : Pairs) → IsKeyOrValueOf d ps → weight d ≤ pairs_weight ps
pair-weight d no_pairs h = absurd h
pair-weight d (pair k v ps) h =
    ⊎_elim
    (⊎_elim (λ (is : d ≡ k). omega (arith, ap weight is)) (λ (is : d ≡ v). omega (arith, ap weight is)))
    (λ (rest : IsKeyOrValueOf d ps). omega (arith, pair-weight d ps rest))
    h

item-nesting : (d : Datum) (ds : Items) → IsItemOf d ds → nesting d ≤ items_nesting ds
item-nesting d no_items h = absurd h
item-nesting d (item e ds) h =
    ⊎_elim (λ (is : d ≡ e). omega (arith, ap nesting is)) (λ (rest : IsItemOf d ds). omega (arith, item-nesting d ds rest)) h

pair-nesting : (d : Datum) (ps : Pairs) → IsKeyOrValueOf d ps → nesting d ≤ pairs_nesting ps
pair-nesting d no_pairs h = absurd h
pair-nesting d (pair k v ps) h =
    ⊎_elim
    (⊎_elim (λ (is : d ≡ k). omega (arith, ap nesting is)) (λ (is : d ≡ v). omega (arith, ap nesting is)))
    (λ (rest : IsKeyOrValueOf d ps). omega (arith, pair-nesting d ps rest))
    h

pub weight-part : (d e : Datum) → IsPartOf d e → weight d < weight e
weight-part d (list ds) h = omega (arith, item-weight d ds h)
weight-part d (vector ds) h = omega (arith, item-weight d ds h)
weight-part d (map ps) h = omega (arith, pair-weight d ps h)
weight-part d _ h = absurd h

pub nesting-part : (d e : Datum) → IsPartOf d e → nesting d < nesting e
nesting-part d (list ds) h = omega (arith, item-nesting d ds h)
nesting-part d (vector ds) h = omega (arith, item-nesting d ds h)
nesting-part d (map ps) h = omega (arith, pair-nesting d ps h)
nesting-part d _ h = absurd h
