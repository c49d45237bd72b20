use Rattle.std.proofs.Common.{◌∙◌, ◌++◌, ◌∷◌, [], sym, ap, subst, List}
use Rattle.std.specs.Prelude.{Vec}
use Rattle.std.specs.declared.alloc.Global.{Global}
use Rattle.paged_list.specs.Paged.{all_items, IsPaged, IsRoomFor}
use Rattle.paged_list.proofs.Rows.{items-begun, paged-begun, room-begun}
use Rattle.paged_list.proofs.growing.begin_page.Goals as goal

pub returns-clause-items : goal.returns-clause-items
returns-clause-items g c =
    let ps = c.args.pages.now.items in
    let after = c.push_reserved.ensures.items
    ∙ ap (λ (qs : List (Vec g.row.T.Denot Global)). qs ++ c.new.result ∷ [])
    c.reserve.ensures.items in
    ap all_items after ∙ items-begun ps c.new.result c.new.ensures.items

pub returns-clause-paged : goal.returns-clause-paged
returns-clause-paged g c = λ n paged.
    let ps = c.args.pages.now.items in
    let after = c.push_reserved.ensures.items
    ∙ ap (λ (qs : List (Vec g.row.T.Denot Global)). qs ++ c.new.result ∷ [])
    c.reserve.ensures.items in
    subst (λ (qs : List (Vec g.row.T.Denot Global)). IsPaged qs n) (sym after)
    (paged-begun ps n c.new.result paged c.new.ensures.items)

pub returns-clause-room : goal.returns-clause-room
returns-clause-room g c = λ n room.
    let ps = c.args.pages.now.items in
    let after = c.push_reserved.ensures.items
    ∙ ap (λ (qs : List (Vec g.row.T.Denot Global)). qs ++ c.new.result ∷ [])
    c.reserve.ensures.items in
    subst (λ (qs : List (Vec g.row.T.Denot Global)). IsRoomFor qs n) (sym after)
    (room-begun ps n c.new.result room)
