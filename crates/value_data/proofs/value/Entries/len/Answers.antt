use Rattle.std.proofs.Common.{sym, ◌∙◌}
use Rattle.value_data.proofs.Entered.{long}
use Rattle.value_data.proofs.value.Entries.len.Goals as goal

pub returns-clause-count : goal.returns-clause-count
returns-clause-count c = c.len.ensures.count ∙ sym (long c.self.inside.keys c.self.inside.values c.args.self.now c.self.invariant c.self.view_is)
