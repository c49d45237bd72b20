use Rattle.std.proofs.Common.{◌<◌, List, length, ap, ◌∙◌, arith}
use Rattle.std.proofs.lemmas.List.Edits.{length-remove}
use Rattle.std.specs.List.{zip, remove}
use Rattle.value_data.specs.Datum.{Datum}
use Rattle.value_data.specs.Listed.{listed}
use Rattle.value_data.specs.Inside.Held.{EntriesData}
use Rattle.value_data.proofs.Entered.{long, long-too, zip-without}
use Rattle.value_data.proofs.value.Entries.without.Goals as goal

pub without_item-requires : goal.without_item-requires
without_item-requires c = omega (arith, c.requires, long c.self.inside.keys c.self.inside.values c.args.self c.self.invariant c.self.view_is)

pub without_item-requires-2 : goal.without_item-requires-2
without_item-requires-2 c = omega (arith, c.requires, long-too c.self.inside.keys c.self.inside.values c.args.self c.self.invariant c.self.view_is)

pub invariant_of-result : goal.invariant_of-result
invariant_of-result c =
    let ks = listed c.self.inside.keys.items in
    let vs = listed c.self.inside.values.items in
    let first : c.args.place < length ks = omega (arith, c.requires, long c.self.inside.keys c.self.inside.values c.args.self c.self.invariant c.self.view_is) in
    let second : c.args.place < length vs = omega (arith, c.requires, long-too c.self.inside.keys c.self.inside.values c.args.self c.self.invariant c.self.view_is) in
    omega (
      arith,
      c.self.invariant,
      ap (λ (ds : List Datum). length ds) c.in_ok-without_item.ensures,
      ap (λ (ds : List Datum). length ds) c.in_ok-without_item-2.ensures,
      length-remove ks c.args.place first,
      length-remove vs c.args.place second,
    )

pub returns : goal.returns
returns c =
    let ks = listed c.self.inside.keys.items in
    let vs = listed c.self.inside.values.items in
    let first : c.args.place < length ks = omega (arith, c.requires, long c.self.inside.keys c.self.inside.values c.args.self c.self.invariant c.self.view_is) in
    ap (λ (ds : List Datum). zip ds (listed c.in_ok-without_item-2.field-0.items)) c.in_ok-without_item.ensures
    ∙ ap (λ (ds : List Datum). zip (remove ks c.args.place) ds) c.in_ok-without_item-2.ensures
    ∙ zip-without ks vs c.args.place c.self.invariant first
    ∙ ap (λ (e : EntriesData). remove e.listed c.args.place) c.self.view_is
