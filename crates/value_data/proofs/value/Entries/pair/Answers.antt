use Rattle.std.proofs.Common.{arith}
use Rattle.value_data.specs.Inside.View.{view}
use Rattle.value_data.proofs.Entered.{long, long-too, pair-at}
use Rattle.value_data.proofs.value.Entries.pair.Goals as goal

pub at-requires : goal.at-requires
at-requires c = omega (arith, c.requires, long c.self.inside.keys c.self.inside.values c.args.self.now c.self.invariant c.self.view_is)

pub at-requires-2 : goal.at-requires-2
at-requires-2 c = omega (arith, c.requires, long-too c.self.inside.keys c.self.inside.values c.args.self.now c.self.invariant c.self.view_is)

pub returns : goal.returns
returns c =
    pair-at c.self.inside.keys c.self.inside.values c.args.self.now c.self.invariant c.self.view_is c.args.place
    (view c.at.result.now, view c.at-2.result.now) c.requires c.at.ensures c.at-2.ensures
