use Rattle.std.proofs.Common.{◌≡◌, ◌∙◌, ◌++◌, ℕ, List, map, refl, sym, subst}
use Rattle.repl_replies.specs.Replies.{bytes_of}
use Rattle.repl_replies.specs.Inside.View.{origin_view}
use Rattle.repl_replies.specs.declared.reply.Origin.{Origin}
use Rattle.value_data.specs.Datum.{Datum}
use Rattle.value_data.specs.Inside.View.{view}
use Rattle.repl_asks.specs.Inside.Jobs.{finished_view}
use Rattle.repl_sessions.specs.State.{StateData}
use Rattle.server_rules.specs.Request.{WorkInHand, last_form}
use Rattle.server_rules.specs.Moves.{Move, closing_move, going_on}
use Rattle.server_rules.specs.Replying.{output_replies}
use Rattle.tenant_parts.specs.View.{hand_view}
use Rattle.tenant_moves.specs.declared.effects.RequestEffects.{RequestEffects}
use Rattle.tenant_moves.specs.Told.{told_bytes, told_state, Adds}
use Rattle.tenant_moves.proofs.Behind.{ends-behind, ends-over}
use Rattle.tenant_moves.proofs.ending.end_with_value.Goals as goal

pub returns-then-is_last : goal.returns-then-is_last
returns-then-is_last c =
    let here = hand_view c.args.hand.now in
    let e = finished_view c.args.finished.now in
    let d = view c.args.value.now in
    let h : WorkInHand = record here { manner = last_form d; namespace = e.namespace } in
    let mid : RequestEffects = record c.args.effects.now { batch = c.add_printed.new.self } in
    let s = told_state c.args.effects.now in
    let P : Datum → Type 0 = λ x. Adds (closing_move h.origin (last_form x) h.fault s)
    mid c.end_request.new.self in
    let f : StateData → Move = going_on h h.forms in
    let over = ends-over h here s mid c.end_request.new.self
    (sym c.is_last.ensures ∙ c.if-is_last.true)
    (subst P c.in_ok-last.ensures c.in_ok-end_request.ensures) in
    let Q : Origin → List ℕ → Type 0 = λ o text. told_bytes mid ≡ told_bytes c.args.effects.now
    ++ map bytes_of (output_replies (origin_view o) text) in
    let told = subst (λ o. Q o e.text) c.deref.ensures
    (subst (Q c.deref.result.now) c.text.ensures c.in_ok-add_printed.ensures) in
    ends-behind (output_replies here.origin e.text) f s here
    c.args.effects.now mid c.end_request.new.self _ told refl over
