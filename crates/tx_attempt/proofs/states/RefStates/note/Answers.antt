use Rattle.std.proofs.Common.{ap, ◌∙◌}
use Rattle.value_data.specs.Inside.View.{view}
use Rattle.repl_asks.specs.Inside.View.{name_view}
use Rattle.tx_attempt.specs.Inside.States.{marked, has_value}
use Rattle.tx_attempt.proofs.Stated.{inserted}
use Rattle.tx_attempt.proofs.states.RefStates.note.Goals as goal

pub returns-clause-noted : goal.returns-clause-noted
returns-clause-noted c =
    let mark = c.args.mark in
    λ n. inserted c.args.self.now.alloc c.args.self.now c.get_mut.follows.lender-at-none c.insert.new.self
    c.of-key.result (name_view c.args.name) c.mark-is_first.new.self
    (λ s. marked mark (has_value (view c.args.value) s)) n c.of-key.ensures c.in_default.ensures.value
    c.get_mut.follows.holds-at-none c.in_ok-insert.ensures.updates
    (c.mark-is_first.ensures.marked ∙ ap (marked mark) c.new-state.ensures)
