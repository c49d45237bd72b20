use Rattle.std.proofs.Common.{◌≡◌, ◌++◌, ◌-◌, List, take, drop, length, ap, sym, ◌∙◌, arith}
use Rattle.value_data.specs.Datum.{Datum}
use Rattle.value_data.specs.Inside.Held.{ItemsTreeData}
use Rattle.value_data.specs.Inside.View.{views}
use Rattle.value_data.specs.Inside.Nodes.{shown}
use Rattle.value_data.specs.declared.value.ItemsShape.{ItemsShape}
use Rattle.value_data.specs.declared.value.ItemsNode.{ItemsNode}
use Rattle.value_data.specs.declared.value.Value.{Value}
use Rattle.value_data.proofs.Rows.{chunk-views, length-views, drop-right}
use Rattle.value_data.proofs.reads.+chunk_from.Goals as goal

pub returns-in-Leaf-clause-prefix : goal.returns-in-Leaf-clause-prefix
returns-in-Leaf-clause-prefix t c =
    let row = c.deref.result.now in
    let seen : shown c.args.shape.now ≡ views row =
    ap (λ (s : ItemsShape). shown s) c.in-Leaf.is
    ∙ ap (λ (vs : List Value). views vs) (sym c.deref.ensures.value) in
    let long = ap (λ (ds : List Datum). length ds) seen in
    chunk-views row c.args.place (omega (arith, c.requires, long, length-views row))
    ∙ ap (λ (ds : List Datum). take (length (take (length row - c.args.place) (drop c.args.place row))) (drop c.args.place ds)) (sym seen)

pub returns-else-place-before-clause-prefix : goal.returns-else-place-before-clause-prefix
returns-else-place-before-clause-prefix t c =
    let l = c.in-Fork.left.items in
    let r = c.in-Fork.right.items in
    let count = length c.chunk_from-else-place-before.result.now in
    let seen : shown c.args.shape.now ≡ l ++ r = ap (λ (s : ItemsShape). shown s) c.in-Fork.is in
    let inner : shown c.deref-else-place-before.result.now.shape ≡ r =
    ap (λ (n : ItemsNode). shown n.shape) c.deref-else-place-before.ensures ∙ ap (λ (d : ItemsTreeData). d.items) c.right.view_is in
    (rw c.len-before.ensures.count at c.chunk_from-else-place-before.ensures.prefix)
    ∙ ap (λ (ds : List Datum). take count (drop (c.args.place - length l) ds)) inner
    ∙ ap (λ (ds : List Datum). take count ds)
    (sym (drop-right l r c.args.place (omega (arith, c.len-before.ensures.count, c.if-place-before.false))) ∙ ap (λ (ds : List Datum). drop c.args.place ds) (sym seen))
