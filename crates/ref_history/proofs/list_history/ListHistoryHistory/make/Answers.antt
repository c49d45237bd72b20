use Rattle.std.proofs.Common.{ap}
use Rattle.slab.specs.Slab.{get}
use Rattle.ref_history.proofs.Placed.{same-but, same-places, on_err}
use Rattle.ref_history.proofs.list_history.ListHistoryHistory.make.Goals as goal

pub returns-in_err-place-clause-as_it_was : goal.returns-in_err-place-clause-as_it_was
returns-in_err-place-clause-as_it_was c = on_err c.from_residual.result
    (same-places c.args.self.now.refs c.insert.new.self
    (λ n. ap (λ places. get places n) c.in_err-place.ensures.err))

pub returns-clause-others : goal.returns-clause-others
returns-clause-others c = same-but c.args.self.now.refs c.insert.new.self
    (record { place = c.in_ok-place.place }) c.in_ok-place.ensures.updates.others
