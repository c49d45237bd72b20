use Rattle.std.proofs.Common.{ap, ◌∙◌}
use Rattle.value_data.specs.Inside.View.{view}
use Rattle.repl_asks.specs.Inside.View.{name_view, commute_view}
use Rattle.tx_attempt.specs.Inside.States.{has_value, has_commute}
use Rattle.tx_attempt.proofs.Stated.{inserted}
use Rattle.tx_attempt.proofs.states.RefStates.commute.Goals as goal

pub returns-clause-noted : goal.returns-clause-noted
returns-clause-noted c =
    let more = commute_view c.args.commute in
    λ n. inserted c.args.self.now.alloc c.args.self.now c.get_mut.follows.lender-at-none c.insert.new.self
    c.of-key.result (name_view c.args.name) c.commute-2.new.self
    (λ s. has_value (view c.args.value) (has_commute more s)) n c.of-key.ensures c.in_default.ensures.value
    c.get_mut.follows.holds-at-none c.in_ok-insert.ensures.updates
    (c.in_ok-is_first-2.ensures.commuted ∙ ap (has_commute more) c.new-state.ensures)
