use Rattle.std.proofs.Common.{sym, arith}
use Rattle.value_data.specs.Inside.View.{view}
use Rattle.private_cells.specs.Inside.Seen.{cell_view}
use Rattle.private_cells.specs.Inside.Changes.{with_agent_state}
use Rattle.private_cells.proofs.Changing.{map_set_by, changed_none}
use Rattle.private_cells.proofs.Turning.{opens_set}
use Rattle.private_cells.proofs.listed.finish_at.Goals as goal

pub returns-in-Some-clause-over : goal.returns-in-Some-clause-over
returns-in-Some-clause-over c =
    map_set_by cell_view (with_agent_state (view c.args.value)) c.args.number _ _ c.args.cells.now.items
    c.in-Some.ensures.value c.finish.ensures.over

pub returns-in-Some-clause-opened : goal.returns-in-Some-clause-opened
returns-in-Some-clause-opened c =
    opens_set cell_view c.finish.result c.args.number c.in-Some.cell.now c.finish.new.self
    c.args.cells.now.items (omega (arith, c.in-Some.ensures.item)) c.in-Some.ensures.value
    c.finish.ensures.opened

pub returns-in-None-clause-over : goal.returns-in-None-clause-over
returns-in-None-clause-over c =
    sym (changed_none cell_view (with_agent_state (view c.args.value)) c.args.number
    c.args.cells.now.items c.in-None.ensures.item.3)
