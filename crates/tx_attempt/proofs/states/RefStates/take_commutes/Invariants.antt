use Rattle.std.proofs.Common.{◌≡◌, ◌≤◌, map, filter_map, length, take, vec_len, cond}
use Rattle.std.specs.Prelude.{vec_capacity}
use Rattle.repl_asks.specs.Inside.View.{name_view, commuted_view}
use Rattle.repl_asks.specs.Transactions.{RefNameData}
use Rattle.tx_attempt.specs.contracts.key.KeyOrd.TheImpl as order
use Rattle.repl_asks.specs.Accesses.{is_among}
use Rattle.tx_attempt.specs.Inside.States.{states_of, unnamed, commuted_in}
use Rattle.tx_attempt.proofs.states.RefStates.take_commutes.Given as goal

-- the names so far are named no more, and their commutes are there
abbrev pub invariant-loop-name : goal.invariant-loop-name
invariant-loop-name l = record {
  left : (n : RefNameData) → states_of (order.ghosts).cmp l.self n
      ≡ cond (is_among n (map name_view (take l.name-index l.names))) unnamed
      (states_of (order.ghosts).cmp l.fn.self n);
  taken : map commuted_view l.groups.items
      ≡ filter_map (commuted_in (states_of (order.ghosts).cmp l.fn.self)) (map name_view (take l.name-index l.names));
  few : vec_len l.groups ≤ l.name-index;
  room : length l.names ≤ vec_capacity l.groups;
}
