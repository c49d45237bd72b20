use Rattle.std.proofs.Common.{◌≡◌, Err, Result}
use Rattle.tenant_moves.proofs.hearing.feed_piece.Goals as goal

err-same : {T E : Type 0} (x y : E) → ◌≡◌ {A = Result T E} (Err x) (Err y) → x ≡ y
err-same x y e = cc

pub returns-else-is_refused-clause-stands : goal.returns-else-is_refused-clause-stands
returns-else-is_refused-clause-stands c = λ limit all taken s.
    c.in-Err.ensures.stands limit all taken s (λ e. c.is_refused.ensures.met c.if-is_refused.false (err-same _ _ e))

pub returns-else-is_refused-clause-returns : goal.returns-else-is_refused-clause-returns
returns-else-is_refused-clause-returns c = λ limit all taken s none.
    c.in-Err.ensures.returns limit all taken s none c.requires (λ e. c.is_refused.ensures.met c.if-is_refused.false (err-same _ _ e))
