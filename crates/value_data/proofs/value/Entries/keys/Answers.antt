use Rattle.value_data.proofs.Entered.{key-items}
use Rattle.value_data.proofs.value.Entries.keys.Goals as goal

pub returns : goal.returns
returns c = key-items c.self.inside.keys c.self.inside.values c.args.self.now c.self.invariant c.self.view_is
