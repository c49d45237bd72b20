use Rattle.std.proofs.Common.{rules, ◌≡◌, ◌++◌, length, sym, ap, ◌∙◌, arith}
use Rattle.std.proofs.lemmas.List.{length-append}
use Rattle.chunked_list.specs.Held.{NumbersTreeData}
use Rattle.chunked_list.specs.Nodes.{numbers_shown}
use Rattle.chunked_list.specs.declared.tree.NumbersNode.{NumbersNode}
use Rattle.chunked_list.proofs.Tickets.{below-both, below-front, below-most, below-whole, rises-parts}
use Rattle.chunked_list.proofs.tree.NumbersTree.+count_below.Goals as goal

pub returns-then-last-number : goal.returns-then-last-number
returns-then-last-number t c =
    c.len-all.ensures ∙ sym (below-whole c.args.number c.args.self.now.items c.requires (omega (arith, c.last.ensures, c.if-last-number.true)))

pub count_below-requires : goal.count_below-requires
count_below-requires t c =
    let is : c.args.self.now.items ≡ c.in-Fork.left.items ++ c.in-Fork.right.items =
    sym (ap (λ (d : NumbersTreeData). d.items) c.self.view_is) ∙ ap (λ (n : NumbersNode). numbers_shown n.shape) (sym c.deref.ensures) ∙ ap numbers_shown c.in-Fork.is in
    (search rules, (rises-parts c.in-Fork.left.items c.in-Fork.right.items c.args.self.now.items is c.requires).1)

pub overflow_add-result : goal.overflow_add-result
overflow_add-result t c =
    let is : c.args.self.now.items ≡ c.in-Fork.left.items ++ c.in-Fork.right.items =
    sym (ap (λ (d : NumbersTreeData). d.items) c.self.view_is) ∙ ap (λ (n : NumbersNode). numbers_shown n.shape) (sym c.deref.ensures) ∙ ap numbers_shown c.in-Fork.is in
    omega (
      arith,
      ap (λ xs. length xs) is,
      length-append c.in-Fork.left.items c.in-Fork.right.items,
      c.len-all.type_inv,
      c.len-all.ensures,
      c.len.ensures,
      c.count_below.ensures,
      below-most c.args.number c.in-Fork.right.items,
    )

pub count_below-requires-else-last-number-2 : goal.count_below-requires-else-last-number-2
count_below-requires-else-last-number-2 t c =
    let is : c.args.self.now.items ≡ c.in-Fork.left.items ++ c.in-Fork.right.items =
    sym (ap (λ (d : NumbersTreeData). d.items) c.self.view_is) ∙ ap (λ (n : NumbersNode). numbers_shown n.shape) (sym c.deref.ensures) ∙ ap numbers_shown c.in-Fork.is in
    (search rules, (rises-parts c.in-Fork.left.items c.in-Fork.right.items c.args.self.now.items is c.requires).0)

pub returns-then-last-number-2 : goal.returns-then-last-number-2
returns-then-last-number-2 t c =
    let is : c.args.self.now.items ≡ c.in-Fork.left.items ++ c.in-Fork.right.items =
    sym (ap (λ (d : NumbersTreeData). d.items) c.self.view_is) ∙ ap (λ (n : NumbersNode). numbers_shown n.shape) (sym c.deref.ensures) ∙ ap numbers_shown c.in-Fork.is in
    omega (
      arith,
      c.len.ensures,
      c.count_below.ensures,
      below-both c.args.number c.in-Fork.left.items c.in-Fork.right.items c.args.self.now.items is c.requires (omega (arith, c.last-in-Fork.ensures, c.if-last-number-2.true)),
    )

pub returns-else-last-number-2 : goal.returns-else-last-number-2
returns-else-last-number-2 t c =
    let is : c.args.self.now.items ≡ c.in-Fork.left.items ++ c.in-Fork.right.items =
    sym (ap (λ (d : NumbersTreeData). d.items) c.self.view_is) ∙ ap (λ (n : NumbersNode). numbers_shown n.shape) (sym c.deref.ensures) ∙ ap numbers_shown c.in-Fork.is in
    c.count_below-else-last-number-2.ensures
    ∙ sym (below-front c.args.number c.in-Fork.left.items c.in-Fork.right.items c.args.self.now.items is c.requires (omega (arith, c.last-in-Fork.ensures, c.if-last-number-2.false)))
