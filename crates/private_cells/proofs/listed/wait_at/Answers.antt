use Rattle.std.proofs.Common.{map, arith}
use Rattle.private_cells.specs.Inside.Seen.{cell_view, sent_view}
use Rattle.private_cells.specs.Inside.Changes.{with_these}
use Rattle.private_cells.proofs.Changing.{map_set_by}
use Rattle.private_cells.proofs.Turning.{opens_set}
use Rattle.private_cells.proofs.listed.wait_at.Goals as goal

pub returns-clause-waits : goal.returns-clause-waits
returns-clause-waits c =
    map_set_by cell_view (with_these (map sent_view c.args.nodes)) c.args.number _ _
    c.args.cells.now.items c.in-Some.ensures.value c.wait.ensures.waits

pub returns-clause-opened : goal.returns-clause-opened
returns-clause-opened c =
    opens_set cell_view c.wait.result c.args.number c.in-Some.cell.now c.wait.new.self
    c.args.cells.now.items (omega (arith, c.in-Some.ensures.item)) c.in-Some.ensures.value
    c.wait.ensures.opened
