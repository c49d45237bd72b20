use Rattle.value_data.proofs.Entered.{value-items}
use Rattle.value_data.proofs.value.Entries.values.Goals as goal

pub returns : goal.returns
returns c = value-items c.self.inside.keys c.self.inside.values c.args.self.now c.self.invariant c.self.view_is
