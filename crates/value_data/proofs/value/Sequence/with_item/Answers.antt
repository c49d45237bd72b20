use Rattle.std.proofs.Common.{◌≡◌, ◌+◌, ◌++◌, ◌∷◌, length, take, drop, List, ap, sym, ◌∙◌, arith}
use Rattle.value_data.specs.Datum.{Datum}
use Rattle.value_data.specs.Listed.{listed}
use Rattle.value_data.specs.Inside.View.{view}
use Rattle.value_data.proofs.Lists.{listed-of}
use Rattle.value_data.proofs.Rows.{set-parts, last-parts}
use Rattle.value_data.proofs.value.Sequence.with_item.Goals as goal

pub returns-then-place-len : goal.returns-then-place-len
returns-then-place-len c =
    let items = c.into_tree-tree.result.items in
    ap listed c.of.ensures
    ∙ listed-of c.set.new.self.items
    ∙ c.in_ok-set.ensures
    ∙ set-parts items c.args.place (view c.args.value) (omega (arith, c.if-place-len.true, c.len.ensures.count))
    ∙ ap (λ (ds : List Datum). take c.args.place ds ++ view c.args.value ∷ drop (c.args.place + 1) ds)
    (sym (ap listed c.into_tree-tree.ensures ∙ listed-of items))

pub returns : goal.returns
returns c =
    let items = c.into_tree-tree.result.items in
    let seen : listed c.args.self.items ≡ items = ap listed c.into_tree-tree.ensures ∙ listed-of items in
    let long = ap (λ (ds : List Datum). length ds) seen in
    ap listed c.of-2.ensures
    ∙ listed-of c.push_back.new.self.items
    ∙ c.in_ok-push_back.ensures
    ∙ last-parts items c.args.place (view c.args.value) (omega (arith, c.if-place-len.false, c.len.ensures.count, c.requires, long))
    ∙ ap (λ (ds : List Datum). take c.args.place ds ++ view c.args.value ∷ drop (c.args.place + 1) ds) (sym seen)
