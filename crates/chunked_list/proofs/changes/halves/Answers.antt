use Rattle.std.proofs.Common.{◌≡◌, ◌++◌, ◌∙◌, arith}
use Rattle.std.proofs.lemmas.Result.{IfOk-weaker}
use Rattle.std.specs.List.{insert}
use Rattle.chunked_list.specs.Held.{NumbersTreeData}
use Rattle.chunked_list.proofs.Changing.{insert-rest}
use Rattle.chunked_list.proofs.changes.halves.Goals as goal

pub returns : goal.returns
returns c =
    let first = c.in_ok-leaf-3.field-0.items in
    let second = c.in_ok-leaf-4.field-0.items in
    let all =
    insert-rest c.args.items.now c.split_at.result.0.now c.in_ok-second.second.items first second _ c.args.place c.args.number
    c.split_at.ensures.front
    (c.in_ok-second.ensures.items ∙ c.split_at.ensures.back)
    (omega (arith, c.if-place-before.false))
    (c.in_ok-leaf-3.ensures ∙ c.in_ok-first.ensures.items)
    (c.in_ok-leaf-4.ensures ∙ c.in_ok-insert-2.ensures.items) in
    IfOk-weaker c.fork-2.result (λ made. made.items ≡ first ++ second) (λ made. made.items ≡ insert c.args.items.now c.args.place c.args.number)
    (λ (made : NumbersTreeData) h. h ∙ all)
    c.fork-2.ensures
