use Rattle.value_data.specs.Inside.View.{view}
use Rattle.walker_state.proofs.Swapping.{tried-asks}
use Rattle.walker_state.proofs.swaps.try_swap.Goals as goal

pub returns-clause-meaning : goal.returns-clause-meaning
returns-clause-meaning c = λ s.
    rw (c.in_ok-copy.ensures, c.in_ok-swap.ensures.ok) (tried-asks c.args.swap (view c.args.seen) (view c.args.next) s)
