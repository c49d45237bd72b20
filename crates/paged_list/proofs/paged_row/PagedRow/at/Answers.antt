use Rattle.std.proofs.Common.{◌∙◌, ◌<◌, ap, arith, length, get_or, ℕ}
use Rattle.std.specs.Prelude.{◌/◌, ◌%◌}
use Rattle.paged_list.specs.Paged.{all_items}
use Rattle.paged_list.specs.Listed.{Listed}
use Rattle.paged_list.proofs.Rows.{counted, has-page, has-item, item-at, below, split}
use Rattle.paged_list.proofs.paged_row.PagedRow.at.Goals as goal

pub index-page-requires : goal.index-page-requires
index-page-requires g c =
    let ps = c.self.inside.pages in
    let n = c.self.inside.count in
    let i = c.args.place in
    let seen = ap (λ (l : Listed g.row.T.Denot). length l.items) c.self.view_is in
    let many = counted ps.items n c.self.invariant.paged in
    let asked = c.requires in
    let within : i < n = omega (arith, asked, seen, many) in
    let page = has-page ps.items n i c.self.invariant.paged within in
    omega (arith, page, ps.ok)

pub index-requires : goal.index-requires
index-requires g c =
    let ps = c.self.inside.pages in
    let n = c.self.inside.count in
    let i = c.args.place in
    let seen = ap (λ (l : Listed g.row.T.Denot). length l.items) c.self.view_is in
    let many = counted ps.items n c.self.invariant.paged in
    let asked = c.requires in
    let parts = split i in
    let item = has-item ps.items n (i / 1024) (i % 1024) c.index-page.result.now
    c.self.invariant.paged (omega (arith, asked, seen, many, parts)) (below i)
    c.index-page.ensures in
    omega (arith, item, c.index-page.result.now.ok)

pub returns : goal.returns
returns g c =
    let ps = c.self.inside.pages in
    let n = c.self.inside.count in
    let i = c.args.place in
    let x = c.index.result.now in
    let seen = ap (λ (l : Listed g.row.T.Denot). length l.items) c.self.view_is in
    let many = counted ps.items n c.self.invariant.paged in
    let asked = c.requires in
    let parts = split i in
    c.index.ensures
    ∙ item-at ps.items n (i / 1024) (i % 1024) c.index-page.result.now x
    c.self.invariant.paged (omega (arith, asked, seen, many, parts)) (below i)
    c.index-page.ensures
    ∙ ap (λ (k : ℕ). get_or (all_items ps.items) k x) parts
    ∙ ap (λ (l : Listed g.row.T.Denot). get_or l.items i x) c.self.view_is
