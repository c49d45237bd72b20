use Rattle.std.proofs.Common.{sym, ◌∙◌}
use Rattle.repl_asks.specs.Inside.View.{name_view}
use Rattle.ref_history.specs.Versioned.{with_least}
use Rattle.ref_table.proofs.Telling.{bound-performs}
use Rattle.ref_table.proofs.table.RefTable.set_least.Goals as goal

pub returns-in-Some-clause-told : goal.returns-in-Some-clause-told
returns-in-Some-clause-told g c = λ r points s.
    bound-performs g.H.History.stands c.args.self.now c.set_least.new.self r c.args.caller points
    (name_view c.args.name) c.in-Some.id (with_least c.args.least) (sym c.settable.ensures ∙ c.in-Some.is)
    c.set_least.ensures s
