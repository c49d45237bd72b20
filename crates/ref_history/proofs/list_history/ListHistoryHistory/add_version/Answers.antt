use Rattle.value_data.specs.Inside.View.{view}
use Rattle.ref_history.specs.Versioned.{with_version}
use Rattle.ref_history.specs.Effects.{version}
use Rattle.ref_history.proofs.Placed.{changed-place}
use Rattle.ref_history.proofs.list_history.ListHistoryHistory.add_version.Goals as goal

pub returns-in-Some-clause-added : goal.returns-in-Some-clause-added
returns-in-Some-clause-added c = changed-place c.args.self.now.refs c.args.id c.in-Some.kept.now
    c.add_version.new.self (with_version (version c.args.stamp (view c.args.value)))
    c.in-Some.ensures.value c.add_version.ensures
