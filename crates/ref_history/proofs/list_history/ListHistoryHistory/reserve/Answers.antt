use Rattle.ref_history.proofs.Placed.{same-place}
use Rattle.ref_history.proofs.list_history.ListHistoryHistory.reserve.Goals as goal

pub returns-in-Some-clause-same : goal.returns-in-Some-clause-same
returns-in-Some-clause-same c = same-place c.args.self.now.refs c.args.id c.in-Some.kept.now
    c.reserve.new.self c.in-Some.ensures.value c.reserve.ensures.same
