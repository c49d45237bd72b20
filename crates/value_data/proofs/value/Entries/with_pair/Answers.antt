use Rattle.std.proofs.Common.{◌≡◌, ◌++◌, ◌∷◌, [], List, length, ap, ◌∙◌, arith}
use Rattle.std.proofs.lemmas.List.{length-append}
use Rattle.std.specs.List.{zip}
use Rattle.value_data.specs.Datum.{Datum}
use Rattle.value_data.specs.Listed.{listed}
use Rattle.value_data.specs.Inside.Held.{EntriesData}
use Rattle.value_data.specs.Inside.View.{view}
use Rattle.value_data.proofs.Entered.{zip-behind, listed-last}
use Rattle.value_data.proofs.value.Entries.with_pair.Goals as goal

pub invariant_of-result : goal.invariant_of-result
invariant_of-result c =
    let ks = listed c.self.inside.keys.items in
    let vs = listed c.self.inside.values.items in
    let keys : listed c.in_ok-with_last.field-0.items ≡ ks ++ view c.args.key ∷ [] = ap listed c.in_ok-with_last.ensures ∙ listed-last c.self.inside.keys.items (view c.args.key) in
    let values : listed c.in_ok-with_last-2.field-0.items ≡ vs ++ view c.args.value ∷ [] =
    ap listed c.in_ok-with_last-2.ensures ∙ listed-last c.self.inside.values.items (view c.args.value) in
    omega (
      arith,
      c.self.invariant,
      ap (λ (ds : List Datum). length ds) keys,
      ap (λ (ds : List Datum). length ds) values,
      length-append ks (view c.args.key ∷ []),
      length-append vs (view c.args.value ∷ []),
    )

pub returns : goal.returns
returns c =
    let ks = listed c.self.inside.keys.items in
    let vs = listed c.self.inside.values.items in
    ap (λ (ds : List Datum). zip ds (listed c.in_ok-with_last-2.field-0.items)) (ap listed c.in_ok-with_last.ensures ∙ listed-last c.self.inside.keys.items (view c.args.key))
    ∙ ap (λ (ds : List Datum). zip (ks ++ view c.args.key ∷ []) ds)
    (ap listed c.in_ok-with_last-2.ensures ∙ listed-last c.self.inside.values.items (view c.args.value))
    ∙ zip-behind ks vs (view c.args.key) (view c.args.value) c.self.invariant
    ∙ ap (λ (e : EntriesData). e.listed ++ (view c.args.key, view c.args.value) ∷ []) c.self.view_is
