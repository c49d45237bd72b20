use Rattle.std.proofs.Common.{rules, ℤ, pos, ap, ◌∙◌, get_or, FitsSigned, to_z}
use Rattle.std.specs.Int.{w64}
use Rattle.std.proofs.lemmas.Int.{to_z-of_z}
use Rattle.std.proofs.lemmas.Result.{err_from_is_err_and}
use Rattle.core_scalars.specs.Arithmetic.{left_fold}
use Rattle.core_scalars.specs.Inside.BinaryOperation.{binary_operation}
use Rattle.core_scalars.proofs.Quotients.{fold_next, fold_fails}
use Rattle.core_scalars.proofs.arithmetic.fold.Goals as goal

pub returns-in_err-total : goal.returns-in_err-total
returns-in_err-total c =
    let f = binary_operation c.args.operation in
    let ns = c.args.integers.now in
    let e : FitsSigned w64 (get_or ns c.loop-n.n-index (pos 0)) = search rules in
    let start = ap (λ (x : ℤ). left_fold f x ns) (to_z-of_z w64 c.args.start c.ranges.start) in
    let p = err_from_is_err_and c.from_residual.result c.from_residual.ensures.1 in
    rw (p.1, p.2) (fold_fails f c.in_err-total.field-0.0 (to_z w64 c.loop-n.total-bits) _ ns c.loop-n.n-index (pos 0) (left_fold f c.args.start ns) c.loop-n-test.true (to_z-of_z w64 _ e) c.in_err-total.ensures (c.loop-n.invariant ∙ start))

pub loop-n-preserved : goal.loop-n-preserved
loop-n-preserved c =
    let f = binary_operation c.args.operation in
    let ns = c.args.integers.now in
    let e : FitsSigned w64 (get_or ns c.loop-n.n-index (pos 0)) = search rules in
    let t : FitsSigned w64 c.in_ok-total.total = search rules in
    fold_next f (to_z w64 c.loop-n.total-bits) c.in_ok-total.total _ _ ns c.loop-n.n-index (pos 0) _ c.loop-n-test.true (to_z-of_z w64 _ e) (to_z-of_z w64 _ t) c.in_ok-total.ensures c.loop-n.invariant
