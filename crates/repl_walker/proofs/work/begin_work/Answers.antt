use Rattle.std.proofs.Common.{ap}
use Rattle.value_data.specs.Inside.View.{view}
use Rattle.repl_asks.specs.Inside.Jobs.{work_view}
use Rattle.repl_walker.proofs.Beginning.{begun-form}
use Rattle.repl_walker.proofs.work.begin_work.Goals as goal

pub returns-in_ok-copy-in-Form-clause-meaning : goal.returns-in_ok-copy-in-Form-clause-meaning
returns-in_ok-copy-in-Form-clause-meaning c = λ placed.
    begun-form (work_view c.args.work.now) (view c.in-Form.form) (view c.in_ok-copy-in-Form.field-0) c.args.state.now
    (ap work_view c.in-Form.is) c.in_ok-copy-in-Form.ensures placed
