use Rattle.std.proofs.Common.{◌≡◌, ◌∙◌, ◌≤◌, ◌-◌, [], ◌∷◌, ◌++◌, take, length, arith, sym, ap, subst, rules}
use Rattle.std.proofs.lemmas.Grind.{common_steps}
use Rattle.bencode_wire.specs.Inside.Reader.{frames_view, frame_view, live_frames_view}
use Rattle.bencode_wire.specs.Inside.Undoing.{change_at}
use Rattle.bencode_wire.specs.Inside.View.{tree_view}
use Rattle.bencode_wire.specs.Inside.Places.{FitsPlace}
use Rattle.bencode_wire.proofs.Stacks.{innermost_of, innermost_set}
use Rattle.bencode_wire.proofs.Placing.{was_put}
use Rattle.bencode_wire.proofs.cut.Frames.put_settled.Goals as goal
use Rattle.bencode_wire.proofs.cut.Frames.put_settled.Goals.{then-is_ended, else-is_ended}

pub returns-in-Ok-put_into-clause-logs : goal.returns-in-Ok-put_into-clause-logs
returns-in-Ok-put_into-clause-logs c =
    let f = c.args.self.now in
    let within : f.live ≤ length f.settled.items = search rules in
    let outer = frames_view (take (f.live - 1) f.settled.items) in
    let same : c.index.result.now ≡ c.index_mut.result.now = grind (arith, common_steps) in
    let was : live_frames_view f ≡ frame_view c.index_mut.result.now ∷ outer =
    innermost_of f.settled.items f.live c.index_mut.result.now c.requires within ∙ ap (λ x. frame_view x ∷ outer) (sym c.index_mut.ensures.value) in
    let is = innermost_set f.settled.items f.live c.put_into.new.innermost c.requires within in
    let change : c.if-is_ended.change ≡ change_at c.args.is_ended c.in-Ok.place =
    elim c.if-is_ended.branch [
      | then-is_ended w ↦ w.change-is ∙ ap (λ b. change_at b c.in-Ok.place) (sym w.if-is_ended.true)
      | else-is_ended w ↦ w.change-is ∙ ap (λ b. change_at b c.in-Ok.place) (sym w.if-is_ended.false)
    ] in
    let logged : c.push.new.self.items ≡ f.changes.items ++ c.if-is_ended.change ∷ [] = search rules in
    let placed = was_put c.in-Ok.place (frame_view c.index_mut.result.now) outer _ (tree_view c.args.value)
    (subst (λ x. FitsPlace c.in-Ok.place (frame_view x)) same c.in-Ok.ensures) (c.in-Ok-put_into.ensures.puts outer) in (
      c.in-Ok.place,
      logged ∙ ap (λ x. f.changes.items ++ x ∷ []) change,
      rw was (rw is placed),
    )

pub returns-in-Err-clause-puts : goal.returns-in-Err-clause-puts
returns-in-Err-clause-puts c =
    let f = c.args.self.now in
    let within : f.live ≤ length f.settled.items = search rules in
    rw (innermost_of f.settled.items f.live c.index_mut.result.now c.requires within) (rw (sym c.index_mut.ensures.value) (c.in-Err.ensures.puts _))
