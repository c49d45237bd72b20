use Rattle.std.proofs.Common.{Err, sym, ap, ◌∙◌}
use Rattle.core_scalars.proofs.Quotients.{or_overflow-Some, or_overflow-None}
use Rattle.core_scalars.proofs.arithmetic.or_overflow.Goals as goal

pub returns-in-Some : goal.returns-in-Some
returns-in-Some c = λ n h. or_overflow-Some c.args.checked n c.in-Some.n c.in-Some.is h

pub returns-in_ok-integer_overflow-in-None : goal.returns-in_ok-integer_overflow-in-None
returns-in_ok-integer_overflow-in-None c = λ n h. or_overflow-None c.args.checked n c.in-None.is h ∙ sym (ap Err c.in_ok-integer_overflow-in-None.ensures)
