use Rattle.ref_history.proofs.Ringed.{not-absent-in}
use Rattle.ref_history.proofs.ring_history.RingHistoryHistory.newest.Goals as goal

pub returns-clause-absent : goal.returns-clause-absent
returns-clause-absent c = λ none. absurd
    (not-absent-in c.args.self.now.rings c.args.self.now.refs.items
    c.args.id c.in_ok-kept.field-0 c.in_ok-kept.ensures none)
