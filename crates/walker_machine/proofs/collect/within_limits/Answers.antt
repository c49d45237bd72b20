use Rattle.std.proofs.Common.{rules}
use Rattle.value_data.specs.Inside.View.{view}
use Rattle.walker_machine.proofs.Collecting.{within_limits-misfits}
use Rattle.walker_machine.proofs.collect.within_limits.Goals as goal

pub returns-then-weight-gt-MOST_WEIGHT-clause-meaning : goal.returns-then-weight-gt-MOST_WEIGHT-clause-meaning
returns-then-weight-gt-MOST_WEIGHT-clause-meaning c = λ s.
    within_limits-misfits (view c.args.value) _ s (search rules) (search rules)
