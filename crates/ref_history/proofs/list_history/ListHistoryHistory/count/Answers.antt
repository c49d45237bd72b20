use Rattle.ref_history.proofs.Placed.{not-absent}
use Rattle.ref_history.proofs.list_history.ListHistoryHistory.count.Goals as goal

pub returns-clause-absent : goal.returns-clause-absent
returns-clause-absent c = λ none.
    let kept = c.in_ok-kept.kept.now in
    absurd (not-absent c.args.self.now.refs c.args.id kept c.in_ok-kept.ensures none)
