use Rattle.std.proofs.Common.{arith}
use Rattle.paged_list.proofs.Rows.{room-fits, split}
use Rattle.paged_list.proofs.paged_row.PagedRow.grow.Goals as goal

pub begin_page-requires : goal.begin_page-requires
begin_page-requires g c =
    let n = c.self.inside.fitting in
    let all = room-fits c.self.inside.pages.items n c.self.invariant.room in
    let parts = split n in
    omega (arith, all, parts)
