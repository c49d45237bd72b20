use Rattle.std.proofs.Common.{sym, ◌∙◌}
use Rattle.ref_history.proofs.Ringed.{some-not-absent}
use Rattle.ref_history.proofs.ring_history.RingHistoryHistory.is_newer.Goals as goal

pub returns-then-is_some-clause-absent : goal.returns-then-is_some-clause-absent
returns-then-is_some-clause-absent c = λ none. absurd
    (some-not-absent c.args.self.now.rings c.args.self.now.refs.items c.args.id c.kept.result
    (sym c.is_some.ensures ∙ c.if-is_some.true) c.kept.ensures none)
