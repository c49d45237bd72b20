use Rattle.std.proofs.Common.{◌≡◌, ◌++◌, ap, sym, subst, ◌∙◌, arith}
use Rattle.chunked_list.specs.Held.{NumbersTreeData}
use Rattle.chunked_list.specs.Nodes.{numbers_shown}
use Rattle.chunked_list.specs.Changes.{numbers_changed, HasNumberPlace}
use Rattle.chunked_list.proofs.Changing.{numbers_changed-left, numbers_changed-right}
use Rattle.chunked_list.proofs.+change.Goals as goal
use Rattle.chunked_list.proofs.+change.Goals.{changes::change_node-then-goes_left+in_ok-change-in-Fork, changes::change_node-else-goes_left+in_ok-change-in-Fork-2}

pub changes::change_node-returns-after-goes_left-clause-items :
    goal.changes::change_node-returns-after-goes_left-clause-items
changes::change_node-returns-after-goes_left-clause-items t c =
    let l = c.in-Fork.left.items in
    let r = c.in-Fork.right.items in
    let n = c.args.place in
    let before : numbers_shown c.args.node.now.shape ≡ l ++ r = ap (λ s. numbers_shown s) c.in-Fork.is in
    elim c.if-goes_left.branch [
      | changes::change_node-then-goes_left+in_ok-change-in-Fork w ↦
          ap (λ (x : NumbersTreeData). x.items ++ c.if-goes_left.right.items) w.left-is
          ∙ ap (λ (x : NumbersTreeData). w.change.new.self.items ++ x.items) w.right-is
          ∙ ap (λ xs. xs ++ r) w.in_ok-change-in-Fork.ensures
          ∙ sym (numbers_changed-left c.args.change n l r (subst (HasNumberPlace c.args.change n) c.len-before.ensures (c.goes_left.ensures.left w.if-goes_left.true)))
          ∙ ap (λ xs. numbers_changed c.args.change n xs) (sym before)
      | changes::change_node-else-goes_left+in_ok-change-in-Fork-2 w ↦
          ap (λ (x : NumbersTreeData). x.items ++ c.if-goes_left.right.items) w.left-is
          ∙ ap (λ (x : NumbersTreeData). l ++ x.items) w.right-is
          ∙ ap (λ xs. l ++ xs) (rw c.len-before.ensures at w.in_ok-change-in-Fork-2.ensures)
          ∙ sym (numbers_changed-right c.args.change n l r (omega (arith, c.len-before.ensures, c.goes_left.ensures.right w.if-goes_left.false)))
          ∙ ap (λ xs. numbers_changed c.args.change n xs) (sym before)
    ]
