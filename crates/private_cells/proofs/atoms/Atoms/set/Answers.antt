use Rattle.std.proofs.Common.{sym, ap}
use Rattle.value_data.specs.Inside.View.{view}
use Rattle.private_cells.proofs.Changing.{map_set, changed_none}
use Rattle.private_cells.proofs.atoms.Atoms.set.Goals as goal

pub returns-in-Some : goal.returns-in-Some
returns-in-Some c =
    ap (λ ds. record { values = ds })
    (map_set view c.args.number c.args.value c.args.self.now.values.items)

pub returns-in-None : goal.returns-in-None
returns-in-None c =
    ap (λ ds. record { values = ds })
    (sym (changed_none view (λ _. view c.args.value) c.args.number c.args.self.now.values.items
    c.in-None.ensures.item.3))
