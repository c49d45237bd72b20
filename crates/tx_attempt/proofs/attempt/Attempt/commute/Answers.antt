use Rattle.std.proofs.Common.{◌≡◌, refl, ap, ◌∙◌, cond, ◌++◌, ◌∷◌, [], map}
use Rattle.value_data.specs.Inside.View.{view}
use Rattle.repl_asks.specs.Inside.View.{name_view, commute_view, sending_view}
use Rattle.tx_attempt.specs.contracts.key.KeyOrd.TheImpl as order
use Rattle.tx_attempt.specs.Inside.States.{states_of, has_value, has_commute}
use Rattle.tx_attempt.specs.Inside.Seen.{attempt_view}
use Rattle.tx_attempt.proofs.Stated.{same-data, Restated, marks-stay, marks-more, once-more}
use Rattle.tx_attempt.proofs.Noting.{on-err, commuted-noted}
use Rattle.tx_attempt.proofs.attempt.Attempt.commute.Goals as goal

pub returns-in_err-reserve-clause-stays : goal.returns-in_err-reserve-clause-stays
unfolding attempt_view
returns-in_err-reserve-clause-stays c =
    let a = c.args.self.now in
    let f = states_of (order.ghosts).cmp a.states in
    on-err c.from_residual.result
    (same-data (map sending_view a.sends.items) f f a.sets.items a.sets.items a.ensured.items a.ensured.items a.commuted.items c.reserve.new.self.items
    (λ n. refl) refl refl c.in_err-reserve.ensures.items)

pub returns-in_err-is_first-clause-stays : goal.returns-in_err-is_first-clause-stays
unfolding attempt_view
returns-in_err-is_first-clause-stays c =
    let a = c.args.self.now in
    on-err c.from_residual-in_err-is_first.result
    (same-data (map sending_view a.sends.items) (states_of (order.ghosts).cmp a.states) (states_of (order.ghosts).cmp c.commute.new.self)
    a.sets.items a.sets.items a.ensured.items a.ensured.items a.commuted.items c.reserve.new.self.items
    c.in_err-is_first.ensures.stays refl refl c.in_ok-reserve.ensures.items)

pub invariant_of-self-2 : goal.invariant_of-self-2
invariant_of-self-2 c =
    let a = c.args.self.now in
    let f = states_of (order.ghosts).cmp a.states in
    let g = states_of (order.ghosts).cmp c.commute.new.self in
    let name = name_view c.args.name in
    let new = has_value (view c.args.value) (has_commute (commute_view c.args.commute) (f name)) in
    let now : Restated f g name new = record { at = c.in_ok-is_first.ensures.noted } in
    let listed : c.list.new.names.items ≡ cond c.in_ok-is_first.is_first
    (a.commuted.items ++ c.args.name ∷ []) a.commuted.items =
    c.list.ensures
    ∙ ap (λ xs. cond c.in_ok-is_first.is_first (xs ++ c.args.name ∷ []) xs) c.in_ok-reserve.ensures.items in
    record {
      set_marks = marks-stay (λ s. s.is_set) f g name new a.sets.items now refl a.set_marks;
      ensured_marks = marks-stay (λ s. s.is_ensured) f g name new a.ensured.items now refl a.ensured_marks;
      commuted_marks = marks-more (λ s. s.is_commuted) f g c.args.name new c.in_ok-is_first.is_first
          a.commuted.items c.list.new.names.items now refl c.in_ok-is_first.ensures.first listed
          a.commuted_marks;
      sets_once = a.sets_once;
      commuted_once = once-more (λ s. s.is_commuted) f c.args.name c.in_ok-is_first.is_first
          a.commuted.items c.list.new.names.items c.in_ok-is_first.ensures.first listed a.commuted_marks
          a.commuted_once;
    }

pub returns-clause-noted : goal.returns-clause-noted
unfolding attempt_view
returns-clause-noted c =
    let a = c.args.self.now in
    commuted-noted (map sending_view a.sends.items) (states_of (order.ghosts).cmp a.states) (states_of (order.ghosts).cmp c.commute.new.self)
    c.args.name (commute_view c.args.commute) (view c.args.value) c.in_ok-is_first.is_first a.sets.items
    a.ensured.items a.commuted.items c.list.new.names.items (record { at = c.in_ok-is_first.ensures.noted })
    c.in_ok-is_first.ensures.first
    (c.list.ensures
    ∙ ap (λ xs. cond c.in_ok-is_first.is_first (xs ++ c.args.name ∷ []) xs) c.in_ok-reserve.ensures.items)
    a.commuted_marks
