use Rattle.std.proofs.Common.{rules}
use Rattle.walker_state.proofs.Swapping.{swap_again-none, swap_again-left}
use Rattle.walker_state.proofs.swaps.swap_once_more.Goals as goal

pub returns-then-swap-eq0-clause-meaning : goal.returns-then-swap-eq0-clause-meaning
returns-then-swap-eq0-clause-meaning c = λ s.
    swap_again-none c.args.swap _ s (search rules) (search rules)

pub returns-clause-meaning : goal.returns-clause-meaning
returns-clause-meaning c = λ s.
    rw c.in_ok-new.ensures.ok (swap_again-left c.args.swap _ s (search rules) (search rules))
