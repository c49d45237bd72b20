use Rattle.std.proofs.Common.{take, ◌++◌, refl, ap, sym, ◌∙◌}
use Rattle.bencode_wire.specs.Inside.Reader.{frames_view}
use Rattle.bencode_wire.proofs.Stacks.{innermost_behind}
use Rattle.bencode_wire.proofs.cut.Frames.innermost.Goals as goal

pub returns-in-Some : goal.returns-in-Some
returns-in-Some c =
    let settled = take c.args.self.now.live c.args.self.now.settled.items in
    let found = innermost_behind settled c.deref.result.now _ c.in-Some.innermost.now refl c.in-Some.ensures.item.3.0 c.in-Some.ensures.item.1 in
    (found.0, ap (λ xs. frames_view (settled ++ xs)) (sym c.deref.ensures.value) ∙ found.1)
