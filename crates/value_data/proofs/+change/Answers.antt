use Rattle.std.proofs.Common.{◌≡◌, ◌++◌, List, ap, sym, subst, ◌∙◌, arith}
use Rattle.value_data.specs.Datum.{Datum}
use Rattle.value_data.specs.Inside.Held.{ItemsTreeData}
use Rattle.value_data.specs.Inside.Nodes.{shown}
use Rattle.value_data.specs.Inside.Changes.{changed, HasPlace}
use Rattle.value_data.specs.declared.value.ItemsShape.{ItemsShape}
use Rattle.value_data.proofs.Changing.{changed-left, changed-right}
use Rattle.value_data.proofs.+change.Goals as goal
use Rattle.value_data.proofs.+change.Goals.{changes::change_node-then-goes_left+in_ok-change-in-Fork, changes::change_node-else-goes_left+in_ok-change-in-Fork-2}

pub changes::change_node-returns-after-goes_left-clause-items :
    goal.changes::change_node-returns-after-goes_left-clause-items
changes::change_node-returns-after-goes_left-clause-items t c =
    let l = c.in-Fork.left.items in
    let r = c.in-Fork.right.items in
    let n = c.args.place in
    let before : shown c.args.node.now.shape ≡ l ++ r = ap (λ (s : ItemsShape). shown s) c.in-Fork.is in
    elim c.if-goes_left.branch [
      | changes::change_node-then-goes_left+in_ok-change-in-Fork w ↦
          ap (λ (x : ItemsTreeData). x.items ++ c.if-goes_left.right.items) w.left-is
          ∙ ap (λ (x : ItemsTreeData). w.change.new.self.items ++ x.items) w.right-is
          ∙ ap (λ (xs : List Datum). xs ++ r) w.in_ok-change-in-Fork.ensures
          ∙ sym (changed-left c.args.change n l r (subst (HasPlace c.args.change n) c.len-before.ensures.count (c.goes_left.ensures.left w.if-goes_left.true)))
          ∙ ap (λ (xs : List Datum). changed c.args.change n xs) (sym before)
      | changes::change_node-else-goes_left+in_ok-change-in-Fork-2 w ↦
          ap (λ (x : ItemsTreeData). x.items ++ c.if-goes_left.right.items) w.left-is
          ∙ ap (λ (x : ItemsTreeData). l ++ x.items) w.right-is
          ∙ ap (λ (xs : List Datum). l ++ xs) (rw c.len-before.ensures.count at w.in_ok-change-in-Fork-2.ensures)
          ∙ sym (changed-right c.args.change n l r (omega (arith, c.len-before.ensures.count, c.goes_left.ensures.right w.if-goes_left.false)))
          ∙ ap (λ (xs : List Datum). changed c.args.change n xs) (sym before)
    ]
