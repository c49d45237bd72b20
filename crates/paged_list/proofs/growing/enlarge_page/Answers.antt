use Rattle.std.proofs.Common.{◌+◌, ap, arith, length}
use Rattle.std.specs.Prelude.{◌*◌}
use Rattle.std.proofs.lemmas.Result.{on_ok_weaker}
use Rattle.paged_list.proofs.Rows.{items-kept, paged-set, room-set, room-grown}
use Rattle.paged_list.proofs.growing.enlarge_page.Goals as goal

pub returns-clause-items : goal.returns-clause-items
returns-clause-items g c =
    items-kept c.args.pages.now.items c.args.place c.index_mut-page.result.now
    c.reserve_exact.new.self c.index_mut-page.ensures.value c.reserve_exact.ensures.items

pub returns-clause-paged : goal.returns-clause-paged
returns-clause-paged g c = λ n paged.
    paged-set c.args.pages.now.items n c.args.place c.index_mut-page.result.now
    c.reserve_exact.new.self paged c.index_mut-page.ensures.value
    (ap length c.reserve_exact.ensures.items)

pub returns-clause-room : goal.returns-clause-room
returns-clause-room g c = λ n room.
    room-set c.args.pages.now.items n c.args.place c.index_mut-page.result.now
    c.reserve_exact.new.self room c.index_mut-page.ensures.value c.reserve_exact.ensures.capacity

pub returns-clause-more : goal.returns-clause-more
returns-clause-more g c = on_ok_weaker c.reserve_exact.result
    (λ room n had from grows.
    let old = c.len.ensures in
    let same = c.reserve_exact.ensures.len in
    let more = c.saturating_sub.ensures in
    room-grown c.args.pages.now.items n (1024 * c.args.place + c.args.size) c.args.place c.args.size
    c.reserve_exact.new.self had c.requires.there from grows (omega arith) c.requires.most
    (omega (arith, room, old, same, more)))
    c.reserve_exact.ensures.ok
