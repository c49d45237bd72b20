use Rattle.std.proofs.Common.{arith}
use Rattle.std.proofs.lemmas.List.Sorted.{sum_by_popped}
use Rattle.private_cells.specs.Inside.Turns.{turn_in}
use Rattle.private_cells.proofs.turns.Turns.pop.Goals as goal

pub returns-clause-popped : goal.returns-clause-popped
returns-clause-popped c = λ f.
    let e = sum_by_popped (λ e. f (turn_in e)) _ _ _ c.in_ok-first.ensures.permutation in
    omega (arith, e)
