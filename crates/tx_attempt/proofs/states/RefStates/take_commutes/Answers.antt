use Rattle.std.proofs.Common.{◌≡◌, cond, ◌++◌, [], ◌∷◌, map, filter_map, take, get_or, sym, ap}
use Rattle.std.proofs.Common.{◌∙◌, arith, option_map, vec_len}
use Rattle.std.specs.Prelude.{vec_capacity}
use Rattle.value_data.specs.declared.value.Owner.{Owner}
use Rattle.value_data.specs.declared.value.RefName.{RefName}
use Rattle.repl_asks.specs.Transactions.{CommutedData}
use Rattle.repl_asks.specs.Inside.View.{name_view, commuted_view}
use Rattle.tx_attempt.specs.contracts.key.KeyOrd.TheImpl as order
use Rattle.repl_asks.specs.Accesses.{is_among}
use Rattle.tx_attempt.specs.Inside.States.{RefStateData, states_of, unnamed, commuted_in}
use Rattle.tx_attempt.proofs.TakenOut.{names-more, names-apart, left-more, still-there}
use Rattle.tx_attempt.proofs.TakenOut.{taken-more, taken-same, group_with}
use Rattle.tx_attempt.proofs.states.RefStates.take_commutes.Goals as goal
use Rattle.tx_attempt.proofs.states.RefStates.take_commutes.Goals.{in-Some, in_default}

pub loop-name-preserved : goal.loop-name-preserved
loop-name-preserved c =
    let names = c.args.names.now in
    let i = c.loop-name.name-index in
    let none : RefName = record { owner = Owner.Shared; number = 0 } in
    let item = get_or names i none in
    let done = map name_view (take i names) in
    let f = states_of (order.ghosts).cmp c.args.self.now in
    let now = states_of (order.ghosts).cmp c.loop-name.self in
    let next = states_of (order.ghosts).cmp c.take.new.self in
    let more = names-more names i none c.loop-name-test.true in
    let known = c.loop-name.invariant in
    let there = still-there f now done (name_view item) (known.left (name_view item))
    (names-apart names i none c.loop-name-test.true c.requires.once) in
    let seen = λ (s : RefStateData). option_map {U = CommutedData} (λ d. record { name = name_view item; commutes = s.commutes }) s.value in
    let all : map commuted_view c.match-take.groups.items
    ≡ filter_map (commuted_in f) (done ++ name_view item ∷ []) =
    elim c.match-take.branch [
      | in-Some w ↦ taken-more commuted_view (commuted_in f) done (name_view item) c.loop-name.groups.items
          c.match-take.groups.items (record { name = item; commutes = w.into_commutes.result })
          (ap (λ v. v.items) w.groups-is ∙ w.push_reserved.ensures.items) known.taken
          (ap seen (sym (w.in-Some.ensures.taken ∙ there))
          ∙ ap (group_with (name_view item)) (sym w.into_commutes.ensures))
      | in_default w ↦ taken-same commuted_view (commuted_in f) done (name_view item) c.loop-name.groups.items
          c.match-take.groups.items (ap (λ v. v.items) w.groups-is) known.taken
          (ap seen (sym (w.in_default.ensures.taken ∙ there)))
    ] in
    record {
      left = λ n. left-more f now next done (name_view item) n (known.left n) (c.take.ensures.left n)
          ∙ ap (λ ns. cond (is_among n ns) unnamed (f n)) (sym more);
      taken = all ∙ ap (filter_map (commuted_in f)) (sym more);
      few = elim c.match-take.branch [
        | in-Some w ↦ omega (arith, ap vec_len w.groups-is, w.push_reserved.ensures.len, known.few)
        | in_default w ↦ omega (arith, ap vec_len w.groups-is, known.few)
      ];
      room = elim c.match-take.branch [
        | in-Some w ↦ omega (arith, ap vec_capacity w.groups-is, w.push_reserved.ensures.capacity, known.room)
        | in_default w ↦ omega (arith, ap vec_capacity w.groups-is, known.room)
      ];
    }
