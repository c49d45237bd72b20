use Rattle.std.proofs.Common.{◌≡◌, ◌∷◌, List, ap, sym, ◌∙◌, subst}
use Rattle.value_data.specs.Datum.{Datum}
use Rattle.value_data.specs.Inside.View.{view, views}
use Rattle.value_data.specs.Inside.Fits.{FitsItems}
use Rattle.value_data.specs.Inside.Changes.{changed}
use Rattle.value_data.specs.declared.changes.ItemChange.{ItemChange}
use Rattle.value_data.proofs.Changing.{views-insert, views-set, views-remove, insert-first}
use Rattle.value_data.proofs.changes.change_items.Goals as goal

pub returns-then-place-eq0-clause-measured : goal.returns-then-place-eq0-clause-measured
returns-then-place-eq0-clause-measured c =
    let put = c.in_ok-insert-in-Insert.ensures.items in
    let now : views c.insert.new.self.items ≡ view c.in-Insert.value ∷ views c.args.items.now.items =
    ap views put ∙ insert-first c.args.items.now.items c.args.place c.in-Insert.value c.if-place-eq0.true in
    subst (λ (ds : List Datum). FitsItems c.plus-then-place-eq0.result ds) (sym now)
    (c.plus-then-place-eq0.ensures _ _ c.of_one-more.ensures c.requires.measured)

pub returns-else-place-eq0-clause-items : goal.returns-else-place-eq0-clause-items
returns-else-place-eq0-clause-items c =
    ap views c.in_ok-insert-in-Insert.ensures.items
    ∙ views-insert c.args.items.now.items c.args.place c.in-Insert.value
    ∙ ap (λ (h : ItemChange). changed h c.args.place (views c.args.items.now.items)) (sym c.in-Insert.is)

pub returns-in-Replace-clause-items : goal.returns-in-Replace-clause-items
returns-in-Replace-clause-items c =
    views-set c.args.items.now.items c.args.place c.in-Replace.value
    ∙ ap (λ (h : ItemChange). changed h c.args.place (views c.args.items.now.items)) (sym c.in-Replace.is)

pub returns-in-Remove-clause-items : goal.returns-in-Remove-clause-items
returns-in-Remove-clause-items c =
    ap views c.remove-taken.ensures.items
    ∙ views-remove c.args.items.now.items c.args.place
    ∙ ap (λ (h : ItemChange). changed h c.args.place (views c.args.items.now.items)) (sym c.in-Remove.is)
