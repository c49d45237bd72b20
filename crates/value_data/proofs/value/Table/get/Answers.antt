use Rattle.std.proofs.Common.{◌≡◌, ◌<◌, length, Option, option_map, Bor, sym, ap, ◌∙◌}
use Rattle.value_data.specs.Inside.Held.{TableData}
use Rattle.value_data.specs.Inside.View.{view}
use Rattle.value_data.specs.Inside.Nodes.{entry_pairs}
use Rattle.value_data.specs.Keyed.{value_under, value_at_place}
use Rattle.value_data.specs.declared.value.PairsNode.{PairsNode}
use Rattle.value_data.specs.declared.value.Value.{Value}
use Rattle.value_data.proofs.Editing.{first_place-within}
use Rattle.value_data.proofs.Tables.{value-first, value-got}
use Rattle.value_data.proofs.value.Table.get.Goals as goal

pub returns-in_err-place : goal.returns-in_err-place
returns-in_err-place c =
    let ps = entry_pairs c.deref.result.now.entries in
    let seen : ps ≡ c.args.self.now.pairs = ap (λ (n : PairsNode). entry_pairs n.entries) c.deref.ensures ∙ ap (λ (t : TableData). t.pairs) c.self.view_is in
    ap (λ (o : Option (Bor Value)). option_map (λ v. view v.now) o) c.from_residual.ensures
    ∙ ap (value_at_place ps) c.in_err-place.ensures
    ∙ value-first ps (view c.args.key.now)
    ∙ ap (value_under (view c.args.key.now)) seen

pub value-requires : goal.value-requires
value-requires c = first_place-within c.deref.result.now.entries.listed (view c.args.key.now) c.in_ok-place.place (sym c.in_ok-place.ensures)

pub returns : goal.returns
returns c =
    let qs = c.deref.result.now.entries.listed in
    let ps = entry_pairs c.deref.result.now.entries in
    let within : c.in_ok-place.place < length qs = first_place-within qs (view c.args.key.now) c.in_ok-place.place (sym c.in_ok-place.ensures) in
    let seen : ps ≡ c.args.self.now.pairs = ap (λ (n : PairsNode). entry_pairs n.entries) c.deref.ensures ∙ ap (λ (t : TableData). t.pairs) c.self.view_is in
    sym (value-got qs c.in_ok-place.place (view c.value.result.now) c.value.ensures within)
    ∙ ap (value_at_place ps) c.in_ok-place.ensures
    ∙ value-first ps (view c.args.key.now)
    ∙ ap (value_under (view c.args.key.now)) seen
