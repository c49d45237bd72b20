-- What an attempt wants, by what was taken out of it.
use Rattle.std.proofs.Common.{◌≡◌, List, true, map, filter_map, is_some, ap₂, ◌∙◌}
use Rattle.std.specs.List.{list_all}
use Rattle.repl_asks.specs.Transactions.{ChangeData, CommutedData}
use Rattle.repl_asks.specs.Inside.View.{name_view, sending_view}
use Rattle.tx_attempt.specs.contracts.key.KeyOrd.TheImpl as order
use Rattle.tx_attempt.specs.declared.attempt.Attempt.{Attempt}
use Rattle.repl_asks.specs.Accesses.{intent_of}
use Rattle.tx_attempt.specs.Inside.States.{States, states_of, change_in, commuted_in}
use Rattle.tx_attempt.specs.Inside.Seen.{attempt_view}
use Rattle.tx_attempt.proofs.Listed.{all-among}
use Rattle.tx_attempt.proofs.Stated.{commuted-known}
use Rattle.tx_attempt.proofs.TakenOut.{LeftOut, groups}

pub wanted : (a : Attempt) (left : States) (sets : List ChangeData) (commuted : List CommutedData)
    → let f = states_of (order.ghosts).cmp a.states in
    LeftOut f left (map name_view a.sets.items)
    → sets ≡ filter_map (change_in f) (map name_view a.sets.items)
    → commuted ≡ filter_map (commuted_in left) (map name_view a.commuted.items)
    → record {
      sets = sets;
      ensured = map name_view a.ensured.items;
      commuted = commuted;
      sends = map sending_view a.sends.items;
    } ≡ intent_of (attempt_view a)
unfolding intent_of attempt_view
wanted a left sets commuted out is_sets is_commuted =
    let f = states_of (order.ghosts).cmp a.states in
    let known : list_all (λ n. is_some (f n).value) (map name_view a.commuted.items) ≡ true =
    all-among (λ n. is_some (f n).value) (map name_view a.commuted.items)
    (λ n among. commuted-known a.states n (a.commuted_marks n ∙ among)) in
    ap₂ (λ (s : List ChangeData) (c : List CommutedData). record {
      sets = s;
      ensured = map name_view a.ensured.items;
      commuted = c;
      sends = map sending_view a.sends.items;
    })
    is_sets
    (is_commuted ∙ groups f left (map name_view a.sets.items) (map name_view a.commuted.items) out known)
