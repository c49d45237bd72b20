use Rattle.core_scalars.proofs.Quotients.{can_divide_bits}
use Rattle.core_scalars.proofs.arithmetic.divide.Goals as goal

pub returns : goal.returns
returns c = can_divide_bits _ _ _ c.ranges.dividend c.ranges.divisor c.requires c.checked_div.ensures
