use Rattle.std.proofs.Common.{◌∙◌}
use Rattle.repl_asks.specs.Inside.View.{intent_view}
use Rattle.ref_table.proofs.Committing.{acceptable}
use Rattle.ref_table.proofs.table.RefTable.accepts.Goals as goal

pub returns : goal.returns
returns g c = λ r points s. c.fits.ensures
    ∙ acceptable g.H.History.stands c.args.self.now r c.args.caller points
    (intent_view c.args.intent.now) s
