use Rattle.std.proofs.Common.{◌∙◌, ◌++◌, ◌∷◌, [], ap, arith, length}
use Rattle.std.specs.Prelude.{◌/◌, ◌%◌}
use Rattle.std.proofs.lemmas.List.{length_push}
use Rattle.paged_list.specs.Listed.{Listed}
use Rattle.paged_list.proofs.Rows.{below, split, next-place, has-room, items-put, paged-put}
use Rattle.paged_list.proofs.Rows.{room-set, next-page}
use Rattle.paged_list.proofs.paged_row.PagedRow.put.Goals as goal

pub index_mut-page-requires : goal.index_mut-page-requires
index_mut-page-requires g c =
    let ps = c.self.inside.pages in
    let n = c.self.inside.count in
    let seen = ap (λ (l : Listed g.row.T.Denot). l.room) c.self.view_is in
    let asked = c.requires in
    let there = next-page ps.items n c.self.inside.fitting (omega (arith, asked, seen))
    c.self.invariant.room in
    omega (arith, there, ps.ok)

pub push_reserved-requires : goal.push_reserved-requires
push_reserved-requires g c =
    let ps = c.self.inside.pages.items in
    let n = c.self.inside.count in
    let seen = ap (λ (l : Listed g.row.T.Denot). l.room) c.self.view_is in
    let asked = c.requires in
    let page = c.index_mut-page.result.now in
    let there = next-page ps n c.self.inside.fitting (omega (arith, asked, seen))
    c.self.invariant.room in
    let at = next-place ps n (n / 1024) (n % 1024) page c.self.invariant.paged (split n) (below n)
    there c.index_mut-page.ensures.value in
    let parts = split n in
    let room = has-room ps c.self.inside.fitting (n / 1024) (n % 1024) page c.self.invariant.room
    (omega (arith, asked, seen, parts)) (below n) c.index_mut-page.ensures.value in
    omega (arith, at, room, page.ok)

pub invariant_of-self : goal.invariant_of-self
invariant_of-self g c =
    let ps = c.self.inside.pages.items in
    let n = c.self.inside.count in
    let seen = ap (λ (l : Listed g.row.T.Denot). l.room) c.self.view_is in
    let asked = c.requires in
    let page = c.index_mut-page.result.now in
    let there = next-page ps n c.self.inside.fitting (omega (arith, asked, seen))
    c.self.invariant.room in
    let same = c.push_reserved.ensures.capacity in
    record {
      paged = paged-put ps n (n / 1024) (n % 1024) page c.push_reserved.new.self
          c.self.invariant.paged (split n) (below n) there c.index_mut-page.ensures.value
          (ap length c.push_reserved.ensures.items ∙ length_push page.items c.args.item);
      room = room-set ps c.self.inside.fitting (n / 1024) page c.push_reserved.new.self
          c.self.invariant.room c.index_mut-page.ensures.value (omega (arith, same));
      fits = omega (arith, asked, seen);
    }

pub returns-clause-items : goal.returns-clause-items
returns-clause-items g c =
    let ps = c.self.inside.pages.items in
    let n = c.self.inside.count in
    let seen = ap (λ (l : Listed g.row.T.Denot). l.room) c.self.view_is in
    let asked = c.requires in
    let there = next-page ps n c.self.inside.fitting (omega (arith, asked, seen))
    c.self.invariant.room in
    items-put ps n (n / 1024) (n % 1024) c.index_mut-page.result.now c.push_reserved.new.self
    c.args.item c.self.invariant.paged (split n) (below n) there c.index_mut-page.ensures.value
    c.push_reserved.ensures.items
    ∙ ap (λ (l : Listed g.row.T.Denot). l.items ++ c.args.item ∷ []) c.self.view_is
