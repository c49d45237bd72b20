use Rattle.ref_history.proofs.Placed.{same-but}
use Rattle.ref_history.proofs.list_history.ListHistoryHistory.drop_ref.Goals as goal

pub returns-clause-others : goal.returns-clause-others
returns-clause-others c = same-but c.args.self.now.refs c.try_remove.new.self c.args.id
    c.try_remove.ensures.updates.others
