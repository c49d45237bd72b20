use Rattle.std.proofs.Common.{sym, arith}
use Rattle.value_data.specs.Inside.View.{view}
use Rattle.private_cells.specs.Agents.{restarted}
use Rattle.private_cells.specs.Inside.Seen.{cell_view}
use Rattle.private_cells.proofs.Changing.{map_set_by, changed_none}
use Rattle.private_cells.proofs.Turning.{opens_set}
use Rattle.private_cells.proofs.listed.restart_at.Goals as goal

pub returns-in-Some-clause-restarted : goal.returns-in-Some-clause-restarted
returns-in-Some-clause-restarted c =
    map_set_by cell_view (restarted (view c.args.state)) c.args.number _ _ c.args.cells.now.items
    c.in-Some.ensures.value c.restart.ensures.restarted

pub returns-in-Some-clause-opened : goal.returns-in-Some-clause-opened
returns-in-Some-clause-opened c =
    opens_set cell_view c.restart.result c.args.number c.in-Some.cell.now c.restart.new.self
    c.args.cells.now.items (omega (arith, c.in-Some.ensures.item)) c.in-Some.ensures.value
    c.restart.ensures.opened

pub returns-in-None-clause-restarted : goal.returns-in-None-clause-restarted
returns-in-None-clause-restarted c =
    sym (changed_none cell_view (restarted (view c.args.state)) c.args.number
    c.args.cells.now.items c.in-None.ensures.item.3)
