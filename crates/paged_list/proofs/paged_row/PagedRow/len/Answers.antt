use Rattle.std.proofs.Common.{◌∙◌, sym, ap, length}
use Rattle.paged_list.specs.Listed.{Listed}
use Rattle.paged_list.proofs.Rows.{counted}
use Rattle.paged_list.proofs.paged_row.PagedRow.len.Goals as goal

pub returns : goal.returns
returns g c =
    sym (counted c.self.inside.pages.items c.self.inside.count c.self.invariant.paged)
    ∙ ap (λ (l : Listed g.row.T.Denot). length l.items) c.self.view_is
