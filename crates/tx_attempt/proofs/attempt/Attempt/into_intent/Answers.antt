use Rattle.std.proofs.Common.{map, filter_map, cond, ap, ◌∙◌}
use Rattle.repl_asks.specs.Inside.View.{name_view, change_view, commuted_view}
use Rattle.value_data.specs.declared.value.RefName.{RefName}
use Rattle.std.proofs.Common.{List}
use Rattle.tx_attempt.specs.contracts.key.KeyOrd.TheImpl as order
use Rattle.repl_asks.specs.Accesses.{is_among}
use Rattle.tx_attempt.specs.Inside.States.{states_of, unnamed, change_in, commuted_in}
use Rattle.tx_attempt.proofs.Wanted.{wanted}
use Rattle.tx_attempt.proofs.attempt.Attempt.into_intent.Goals as goal

pub returns-clause-made : goal.returns-clause-made
returns-clause-made c =
    let a = c.args.self in
    let f = states_of (order.ghosts).cmp a.states in
    let left = states_of (order.ghosts).cmp c.take_values-sets.new.self in
    wanted a left (map change_view c.take_values-sets.result.items) (map commuted_view c.take_commutes-commuted.result.items)
    (record {
      at = λ n. c.take_values-sets.ensures.left n
          ∙ ap (λ (xs : List RefName). cond (is_among n (map name_view xs)) unnamed (f n)) c.deref.ensures.value;
    })
    (c.take_values-sets.ensures.taken
    ∙ ap (λ (xs : List RefName). filter_map (change_in f) (map name_view xs)) c.deref.ensures.value)
    (c.take_commutes-commuted.ensures
    ∙ ap (λ (xs : List RefName). filter_map (commuted_in left) (map name_view xs)) c.deref-2.ensures.value)
