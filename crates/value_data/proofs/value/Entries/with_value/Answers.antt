use Rattle.std.proofs.Common.{◌<◌, List, length, get_or, set, ap, sym, ◌∙◌, arith}
use Rattle.std.specs.List.{zip}
use Rattle.value_data.specs.Datum.{Datum}
use Rattle.value_data.specs.Listed.{listed}
use Rattle.value_data.specs.Inside.Held.{EntriesData}
use Rattle.value_data.specs.Inside.View.{view}
use Rattle.value_data.proofs.Entered.{long, long-too, keys-are, zip-set, parts-long}
use Rattle.value_data.proofs.value.Entries.with_value.Goals as goal

pub with_item-requires : goal.with_item-requires
with_item-requires c = omega (arith, c.requires, long-too c.self.inside.keys c.self.inside.values c.args.self c.self.invariant c.self.view_is)

pub invariant_of-result : goal.invariant_of-result
invariant_of-result c =
    let vs = listed c.self.inside.values.items in
    let inside : c.args.place < length vs = omega (arith, c.requires, long-too c.self.inside.keys c.self.inside.values c.args.self c.self.invariant c.self.view_is) in
    omega (arith, c.self.invariant, ap (λ (ds : List Datum). length ds) c.in_ok-with_item.ensures, parts-long vs c.args.place (view c.args.value) inside)

pub returns : goal.returns
returns c =
    λ key.
    let ks = listed c.self.inside.keys.items in
    let vs = listed c.self.inside.values.items in
    let inside : c.args.place < length ks = omega (arith, c.requires, long c.self.inside.keys c.self.inside.values c.args.self c.self.invariant c.self.view_is) in
    ap (λ (ds : List Datum). zip ks ds) c.in_ok-with_item.ensures
    ∙ zip-set ks vs c.args.place key (view c.args.value) c.self.invariant inside
    ∙ ap (λ (e : EntriesData). set e.listed c.args.place (get_or ks c.args.place key, view c.args.value)) c.self.view_is
    ∙ ap (λ (ds : List Datum). set c.args.self.listed c.args.place (get_or ds c.args.place key, view c.args.value))
    (sym (keys-are c.self.inside.keys c.self.inside.values c.args.self c.self.invariant c.self.view_is))
