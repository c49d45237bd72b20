use Rattle.std.proofs.Common.{List, ℕ, length, subst, sym, ap, ◌∙◌}
use Rattle.value_data.specs.Datum.{Datum}
use Rattle.value_data.specs.Listed.{pairs_of}
use Rattle.value_data.specs.Inside.Index.{ArePlaces, Indexes}
use Rattle.value_data.specs.Inside.Placed.{are_distinct}
use Rattle.value_data.specs.Inside.View.{pairs_view}
use Rattle.value_data.specs.declared.value.Value.{Value}
use Rattle.value_data.proofs.Ascending.{places-ascending, own-length, built-index, distinct-ascending, none-repeats}
use Rattle.value_data.proofs.value.Table.from_pairs.Goals as goal

pub are_ascending-requires : goal.are_ascending-requires
are_ascending-requires c =
    subst (λ (ns : List ℕ). ArePlaces ns (length c.deref-2.result.now)) (sym c.deref-3.ensures.value)
    (subst (λ (xs : List (Value × Value)). ArePlaces c.in_ok-order.order.items (length xs)) (c.deref.ensures.value ∙ sym c.deref-2.ensures.value)
    (places-ascending (length c.deref.result.now) c.in_ok-order.order.items c.in_ok-order.ensures))

pub in_order-requires : goal.in_order-requires
in_order-requires c = own-length (length c.deref.result.now) c.in_ok-order.order.items c.deref-4.result.now c.deref-4.ensures.value c.in_ok-order.ensures

pub sealed_table-requires-clause-distinct : goal.sealed_table-requires-clause-distinct
sealed_table-requires-clause-distinct c =
    let index : Indexes c.in_ok-index.index (pairs_view c.args.pairs.items) =
    built-index c.args.pairs.items c.deref.result.now c.deref-2.result.now c.in_ok-order.order.items c.deref-3.result.now c.in_ok-index.index
    c.deref.ensures.value c.deref-2.ensures.value c.deref-3.ensures.value (c.in_ok-index.ensures ∙ c.deref-4.ensures.value) c.in_ok-order.ensures
    (c.are_ascending.ensures c.if-not-are_ascending.false) in
    ap (λ (qs : List (Datum × Datum)). are_distinct (pairs_of qs)) c.in_ok-entries.ensures
    ∙ distinct-ascending (pairs_view c.args.pairs.items) c.in_ok-index.index index

pub sealed_table-requires-clause-indexed : goal.sealed_table-requires-clause-indexed
sealed_table-requires-clause-indexed c =
    let index : Indexes c.in_ok-index.index (pairs_view c.args.pairs.items) =
    built-index c.args.pairs.items c.deref.result.now c.deref-2.result.now c.in_ok-order.order.items c.deref-3.result.now c.in_ok-index.index
    c.deref.ensures.value c.deref-2.ensures.value c.deref-3.ensures.value (c.in_ok-index.ensures ∙ c.deref-4.ensures.value) c.in_ok-order.ensures
    (c.are_ascending.ensures c.if-not-are_ascending.false) in
    subst (λ (qs : List (Datum × Datum)). Indexes c.in_ok-index.index (pairs_of qs)) (sym c.in_ok-entries.ensures) index

pub returns : goal.returns
returns c =
    let index : Indexes c.in_ok-index.index (pairs_view c.args.pairs.items) =
    built-index c.args.pairs.items c.deref.result.now c.deref-2.result.now c.in_ok-order.order.items c.deref-3.result.now c.in_ok-index.index
    c.deref.ensures.value c.deref-2.ensures.value c.deref-3.ensures.value (c.in_ok-index.ensures ∙ c.deref-4.ensures.value) c.in_ok-order.ensures
    (c.are_ascending.ensures c.if-not-are_ascending.false) in
    (c.in_ok-sealed_table.ensures ∙ ap pairs_of c.in_ok-entries.ensures, none-repeats c.args.pairs.items (distinct-ascending (pairs_view c.args.pairs.items) c.in_ok-index.index index))
