use Rattle.ref_history.proofs.Placed.{not-absent}
use Rattle.ref_history.proofs.list_history.ListHistoryHistory.is_newer.Goals as goal

pub returns-in-Some-clause-absent : goal.returns-in-Some-clause-absent
returns-in-Some-clause-absent c = λ none.
    absurd (not-absent c.args.self.now.refs c.args.id c.in-Some.kept.now c.in-Some.ensures none)
