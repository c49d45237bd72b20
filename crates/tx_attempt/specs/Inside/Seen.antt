-- What an attempt has, seen as data.
use Rattle.std.specs.Prelude.{map}
use Rattle.repl_asks.specs.Inside.View.{name_view, sending_view}
use Rattle.repl_asks.specs.Accesses.{AttemptData}
use Rattle.tx_attempt.specs.Inside.States.{states_of}
use Rattle.tx_attempt.specs.contracts.key.KeyOrd.TheImpl as order
use Rattle.tx_attempt.specs.declared.attempt.Attempt.{Attempt}

unfoldable pub attempt_view : Attempt → AttemptData
attempt_view a = record {
  value = λ n. (states_of (order.ghosts).cmp a.states n).value;
  commutes = λ n. (states_of (order.ghosts).cmp a.states n).commutes;
  sets = map name_view a.sets.items;
  ensured = map name_view a.ensured.items;
  commuted = map name_view a.commuted.items;
  sends = map sending_view a.sends.items;
}
