use Rattle.std.proofs.Common.{List, get_or, sym, ap, ◌∙◌, arith}
use Rattle.value_data.specs.Datum.{Datum}
use Rattle.value_data.specs.Inside.View.{view}
use Rattle.value_data.proofs.Entered.{long-too, values-are}
use Rattle.value_data.proofs.value.Entries.value.Goals as goal

pub at-requires : goal.at-requires
at-requires c = omega (arith, c.requires, long-too c.self.inside.keys c.self.inside.values c.args.self.now c.self.invariant c.self.view_is)

pub returns : goal.returns
returns c =
    c.at.ensures
    ∙ sym (ap (λ (ds : List Datum). get_or ds c.args.place (view c.at.result.now)) (values-are c.self.inside.keys c.self.inside.values c.args.self.now c.self.invariant c.self.view_is))
