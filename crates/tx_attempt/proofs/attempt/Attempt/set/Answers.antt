use Rattle.std.proofs.Common.{◌≡◌, refl, ap, rules, ◌∙◌, cond, ◌++◌, ◌∷◌, [], map}
use Rattle.value_data.specs.Inside.View.{view}
use Rattle.repl_asks.specs.Inside.View.{name_view, sending_view}
use Rattle.tx_attempt.specs.contracts.key.KeyOrd.TheImpl as order
use Rattle.tx_attempt.specs.declared.state.Mark.{Mark}
use Rattle.tx_attempt.specs.Inside.States.{states_of, marked, has_value}
use Rattle.tx_attempt.specs.Inside.Seen.{attempt_view}
use Rattle.repl_asks.specs.Accesses.{is_commuted}
use Rattle.tx_attempt.proofs.Stated.{same-data, Restated, marks-stay, marks-more, once-more}
use Rattle.tx_attempt.proofs.Noting.{on-err, put-noted}
use Rattle.tx_attempt.proofs.attempt.Attempt.set.Goals as goal

pub returns-in_err-reserve-clause-stays : goal.returns-in_err-reserve-clause-stays
unfolding attempt_view
returns-in_err-reserve-clause-stays c =
    let a = c.args.self.now in
    let f = states_of (order.ghosts).cmp a.states in
    on-err c.from_residual.result
    (same-data (map sending_view a.sends.items) f f a.sets.items c.reserve.new.self.items a.ensured.items a.ensured.items a.commuted.items a.commuted.items
    (λ n. refl) c.in_err-reserve.ensures.items refl refl)

pub returns-in_err-is_first-clause-stays : goal.returns-in_err-is_first-clause-stays
unfolding attempt_view
returns-in_err-is_first-clause-stays c =
    let a = c.args.self.now in
    on-err c.from_residual-in_err-is_first.result
    (same-data (map sending_view a.sends.items) (states_of (order.ghosts).cmp a.states) (states_of (order.ghosts).cmp c.note.new.self)
    a.sets.items c.reserve.new.self.items a.ensured.items a.ensured.items a.commuted.items a.commuted.items
    c.in_err-is_first.ensures.stays c.in_ok-reserve.ensures.items refl refl)

pub invariant_of-self-2 : goal.invariant_of-self-2
invariant_of-self-2 c =
    let a = c.args.self.now in
    let f = states_of (order.ghosts).cmp a.states in
    let g = states_of (order.ghosts).cmp c.note.new.self in
    let name = name_view c.args.name in
    let new = marked Mark.Set (has_value (view c.args.value) (f name)) in
    let now : Restated f g name new = record { at = c.in_ok-is_first.ensures.noted } in
    let listed : c.list.new.names.items ≡ cond c.in_ok-is_first.is_first
    (a.sets.items ++ c.args.name ∷ []) a.sets.items =
    c.list.ensures
    ∙ ap (λ xs. cond c.in_ok-is_first.is_first (xs ++ c.args.name ∷ []) xs) c.in_ok-reserve.ensures.items in
    record {
      set_marks = marks-more (λ s. s.is_set) f g c.args.name new c.in_ok-is_first.is_first
          a.sets.items c.list.new.names.items now refl c.in_ok-is_first.ensures.first listed a.set_marks;
      ensured_marks = marks-stay (λ s. s.is_ensured) f g name new a.ensured.items now refl a.ensured_marks;
      commuted_marks = marks-stay (λ s. s.is_commuted) f g name new a.commuted.items now refl a.commuted_marks;
      sets_once = once-more (λ s. s.is_set) f c.args.name c.in_ok-is_first.is_first
          a.sets.items c.list.new.names.items c.in_ok-is_first.ensures.first listed a.set_marks
          a.sets_once;
      commuted_once = a.commuted_once;
    }

pub returns-clause-set : goal.returns-clause-set
unfolding attempt_view
returns-clause-set c =
    let a = c.args.self.now in
    put-noted (map sending_view a.sends.items) (states_of (order.ghosts).cmp a.states) (states_of (order.ghosts).cmp c.note.new.self)
    c.args.name (view c.args.value) c.in_ok-is_first.is_first a.sets.items
    c.list.new.names.items a.ensured.items a.commuted.items (record { at = c.in_ok-is_first.ensures.noted })
    c.in_ok-is_first.ensures.first
    (c.list.ensures
    ∙ ap (λ xs. cond c.in_ok-is_first.is_first (xs ++ c.args.name ∷ []) xs) c.in_ok-reserve.ensures.items)
    a.set_marks

pub returns-then-is_commuted-clause-commuted : goal.returns-then-is_commuted-clause-commuted
unfolding attempt_view is_commuted
returns-then-is_commuted-clause-commuted c =
    c.if-is_commuted.ensures ∙ c.args.self.now.commuted_marks (name_view c.args.name)

pub returns-in_err-reserve-clause-commuted : goal.returns-in_err-reserve-clause-commuted
unfolding attempt_view is_commuted
returns-in_err-reserve-clause-commuted c =
    let free = c.if-is_commuted.ensures
    ∙ c.args.self.now.commuted_marks (name_view c.args.name) in
    search (rules, free)

pub returns-in_err-is_first-clause-commuted : goal.returns-in_err-is_first-clause-commuted
unfolding attempt_view is_commuted
returns-in_err-is_first-clause-commuted c =
    let free = c.if-is_commuted.ensures
    ∙ c.args.self.now.commuted_marks (name_view c.args.name) in
    search (rules, free)

pub returns-clause-commuted : goal.returns-clause-commuted
unfolding attempt_view is_commuted
returns-clause-commuted c =
    c.if-is_commuted.ensures ∙ c.args.self.now.commuted_marks (name_view c.args.name)
