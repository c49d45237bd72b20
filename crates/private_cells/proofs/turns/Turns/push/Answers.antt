use Rattle.std.proofs.lemmas.List.Sorted.{sum_by_pushed}
use Rattle.private_cells.specs.Inside.Turns.{turn_in}
use Rattle.private_cells.proofs.turns.Turns.push.Goals as goal

pub returns-clause-pushed : goal.returns-clause-pushed
returns-clause-pushed c = λ f. sum_by_pushed (λ e. f (turn_in e)) _ _ _ c.in-Ok.ensures.permutation
