use Rattle.ref_history.proofs.Placed.{same-but}
use Rattle.ref_history.proofs.list_history.ListHistoryHistory.take_ref.Goals as goal

pub returns-in-Some-clause-others : goal.returns-in-Some-clause-others
returns-in-Some-clause-others c = same-but c.args.self.now.refs c.try_remove.new.self c.args.id
    c.in-Some.ensures.updates.others

pub returns-in_default-clause-others : goal.returns-in_default-clause-others
returns-in_default-clause-others c = same-but c.args.self.now.refs c.try_remove.new.self c.args.id
    c.in_default.ensures.updates.others
