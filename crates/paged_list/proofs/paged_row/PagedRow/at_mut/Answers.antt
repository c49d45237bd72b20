use Rattle.std.proofs.Common.{◌∙◌, ◌<◌, ◌+◌, ◌-◌, refl, ap, arith, length, get_or, ℕ}
use Rattle.std.specs.Prelude.{◌*◌, ◌/◌, ◌%◌, slice_set}
use Rattle.std.specs.Vec.{with_item}
use Rattle.std.proofs.lemmas.List.{length-set}
use Rattle.paged_list.specs.Paged.{all_items}
use Rattle.paged_list.specs.Listed.{Listed}
use Rattle.paged_list.specs.Lending as lending
use Rattle.paged_list.proofs.Rows.{counted, has-page, has-item, item-at, items-set}
use Rattle.paged_list.proofs.Rows.{paged-set, room-set, below, split}
use Rattle.paged_list.proofs.paged_row.PagedRow.at_mut.Goals as goal

pub index_mut-page-requires : goal.index_mut-page-requires
index_mut-page-requires g c =
    let ps = c.self.inside.pages in
    let n = c.self.inside.count in
    let i = c.args.place in
    let seen = ap (λ (l : Listed g.row.T.Denot). length l.items) c.self.view_is in
    let many = counted ps.items n c.self.invariant.paged in
    let asked = c.requires in
    let within : i < n = omega (arith, asked, seen, many) in
    let page = has-page ps.items n i c.self.invariant.paged within in
    omega (arith, page, ps.ok)

pub index_mut-requires : goal.index_mut-requires
index_mut-requires g c =
    let ps = c.self.inside.pages in
    let n = c.self.inside.count in
    let i = c.args.place in
    let seen = ap (λ (l : Listed g.row.T.Denot). length l.items) c.self.view_is in
    let many = counted ps.items n c.self.invariant.paged in
    let asked = c.requires in
    let parts = split i in
    let page = c.index_mut-page.result.now in
    let item = has-item ps.items n (i / 1024) (i % 1024) page c.self.invariant.paged
    (omega (arith, asked, seen, many, parts)) (below i) c.index_mut-page.ensures.value in
    omega (arith, item, page.ok)

pub invariant_of-self-lent : goal.invariant_of-self-lent
invariant_of-self-lent g c w =
    let ps = c.self.inside.pages.items in
    let i = c.args.place in
    let page = c.index_mut-page.result.now in
    let new = with_item page (i % 1024) w in
    record {
      paged = paged-set ps c.self.inside.count (i / 1024) page new c.self.invariant.paged
          c.index_mut-page.ensures.value (length-set page.items (i % 1024) w);
      room = room-set ps c.self.inside.fitting (i / 1024) page new c.self.invariant.room
          c.index_mut-page.ensures.value (omega arith);
      fits = c.self.invariant.fits;
    }

pub returns : goal.returns
returns g c =
    let ps = c.self.inside.pages.items in
    let n = c.self.inside.count in
    let i = c.args.place in
    let x = c.index_mut.result.now in
    let page = c.index_mut-page.result.now in
    let seen = ap (λ (l : Listed g.row.T.Denot). length l.items) c.self.view_is in
    let many = counted ps n c.self.invariant.paged in
    let asked = c.requires in
    let parts = split i in
    let within : 1024 * (i / 1024) + i % 1024 < n = omega (arith, asked, seen, many, parts) in (
      (
        refl,
        λ w.
            let written = items-set ps n (i / 1024) (i % 1024) page (with_item page (i % 1024) w) w
            c.self.invariant.paged within (below i) c.index_mut-page.ensures.value refl
            ∙ ap (λ (k : ℕ). slice_set (all_items ps) k w) parts in
            ap (λ xs. record { items = xs; room = c.self.inside.fitting - c.self.inside.count })
            written ∙ ap (λ (l : Listed g.row.T.Denot). lending.with_item l i w) c.self.view_is,
      ),
      record {
        writes_back = tt;
        value = c.index_mut.ensures.value
            ∙ item-at ps n (i / 1024) (i % 1024) page x c.self.invariant.paged within (below i)
            c.index_mut-page.ensures.value
            ∙ ap (λ (k : ℕ). get_or (all_items ps) k x) parts
            ∙ ap (λ (l : Listed g.row.T.Denot). get_or l.items i x) c.self.view_is;
      },
    )
