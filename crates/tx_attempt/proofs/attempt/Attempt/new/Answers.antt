use Rattle.std.proofs.Common.{[], map, ap, ◌∙◌}
use Rattle.repl_asks.specs.Inside.View.{sending_view}
use Rattle.tx_attempt.specs.contracts.key.KeyOrd.TheImpl as order
use Rattle.tx_attempt.specs.Inside.States.{states_of, unnamed}
use Rattle.tx_attempt.specs.Inside.Seen.{attempt_view}
use Rattle.tx_attempt.proofs.Stated.{data_of, same-data}
use Rattle.tx_attempt.proofs.attempt.Attempt.new.Goals as goal

pub returns : goal.returns
unfolding attempt_view
returns c =
    same-data (map sending_view c.new-5.result.items) (λ n. unnamed) (states_of (order.ghosts).cmp c.new.result) [] c.new-2.result.items
    [] c.new-3.result.items [] c.new-4.result.items c.new.ensures c.new-2.ensures.items
    c.new-3.ensures.items c.new-4.ensures.items
    ∙ ap (λ xs. data_of (map sending_view xs) (λ n. unnamed) [] [] []) c.new-5.ensures.items
