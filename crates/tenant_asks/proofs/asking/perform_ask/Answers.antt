use Rattle.std.proofs.Common.{sym, ap, subst, refl, ◌∙◌, IfOk}
use Rattle.repl_asks.specs.Inside.View.{ask_view}
use Rattle.server_rules.specs.Asking.{sender_of}
use Rattle.ref_table.specs.Calls.{performed}
use Rattle.server_rules.specs.Cells.{SenderData, cells_after, with_sends_if}
use Rattle.server_rules.specs.Tenant.{seat_of}
use Rattle.ref_table.proofs.Telling.{on_err}
use Rattle.tenant_parts.specs.View.{hand_view}
use Rattle.tenant_parts.specs.AnswerCopies.{copies_view, told_answer}
use Rattle.tenant_asks.specs.Cells.{cells_data}
use Rattle.tenant_asks.specs.Memories.{Remembers}
use Rattle.tenant_asks.specs.Sends.{committed_sends, is_told_yes, sender_view}
use Rattle.tenant_asks.proofs.Answered.{alone-answered, refs-answered, remembers-cells, none-told, with_cells}
use Rattle.tenant_asks.proofs.Answering.{names-nothing, cells-told, cells-spaces, cells-answer}
use Rattle.tenant_asks.proofs.asking.perform_ask.Goals as goal

pub returns-in_err-name-clause-stays : goal.returns-in_err-name-clause-stays
returns-in_err-name-clause-stays c = λ g q s r remembers holds.
    on_err c.from_residual.result (c.in_err-name.ensures.stays g s.tenant q remembers, holds)

pub returns-then-is_of_names-clause-answered : goal.returns-then-is_of_names-clause-answered
returns-then-is_of_names-clause-answered c = λ g q s r remembers holds allowed.
    let sender = sender_of c.args.actor (hand_view c.args.hand.now) in
    let named = c.in_ok-name.ensures.answered g s.tenant sender q remembers in
    let names = names-nothing (seat_of c.args.actor) (ask_view c.args.ask.now)
    (sym c.is_of_names.ensures ∙ c.if-is_of_names.true) in
    alone-answered g s.tenant c.args.actor sender q (ask_view c.args.ask.now) s r c.name.new.memory
    c.args.refs.now c.args.attempts.now (copies_view c.in_ok-name.field-0) holds
    (ap (performed s) names) named.0 named.1

pub returns-then-not-is_told-clause-answered : goal.returns-then-not-is_told-clause-answered
returns-then-not-is_told-clause-answered c = λ g q s r remembers holds allowed. (
  none-told _ _ (c.is_told.ensures s r holds) c.if-not-is_told.true,
  remembers,
  holds,
)

pub returns-then-is_of_cells-clause-answered : goal.returns-then-is_of_cells-clause-answered
returns-then-is_of_cells-clause-answered c = λ g q s r remembers holds allowed.
    let a = c.args.actor in
    let ask = ask_view c.args.ask.now in
    let sender = sender_of a (hand_view c.args.hand.now) in
    let answer = copies_view c.in_ok-ask.field-0 in
    let of_cells = sym c.is_of_cells.ensures ∙ c.if-is_of_cells.true in
    alone-answered g s.tenant a sender q ask s r _ c.args.refs.now c.args.attempts.now answer holds
    (cells-told (seat_of a) ask s of_cells (sym (c.is_told.ensures s r holds) ∙ c.if-not-is_told.false))
    (c.in_ok-ask.ensures.answered ∙ cells-answer g a q ask _ _ of_cells remembers.cells)
    (record {
      sessions = remembers.sessions;
      bare = remembers.bare;
      spaces = remembers.spaces ∙ cells-spaces ask q of_cells;
      names = remembers.names;
      cells = c.in_ok-ask.ensures.changed
          ∙ ap (λ x. cells_after x ask answer (cells_data c.args.memory.now.cells)) c.of-sender.ensures
          ∙ ap (cells_after sender ask answer) remembers.cells;
      replies = remembers.replies;
    })

pub returns-in_err-ask-clause-stays : goal.returns-in_err-ask-clause-stays
returns-in_err-ask-clause-stays c = λ g q s r remembers holds.
    on_err c.from_residual-in_err-ask.result (
      record {
        sessions = remembers.sessions;
        bare = remembers.bare;
        spaces = remembers.spaces;
        names = remembers.names;
        cells = c.in_err-ask.ensures.stays ∙ remembers.cells;
        replies = remembers.replies;
      },
      holds,
    )

pub returns-clause-answered : goal.returns-clause-answered
returns-clause-answered c = λ g q s r remembers holds allowed.
    let a = c.args.actor in
    let ask = ask_view c.args.ask.now in
    let sender = sender_of a (hand_view c.args.hand.now) in
    let new = record c.args.memory.now { cells = c.call_and_send.new.cells } in
    let R : SenderData → Type 0 = λ x. IfOk c.call_and_send.result (λ it. Remembers g s.tenant new
    (with_cells (with_sends_if (is_told_yes (told_answer it)) x (committed_sends ask) q.cells) q)) in
    let sent = remembers-cells g s.tenant c.args.memory.now new q c.call_and_send.result
    (λ it. with_sends_if (is_told_yes (told_answer it)) (sender_view c.of-sender.result) (committed_sends ask))
    remembers (refl, refl, refl, refl) c.call_and_send.ensures.sent in
    refs-answered g s.tenant a sender q ask s r new c.call_and_send.new.refs c.args.refs.now
    c.args.attempts.now c.call_and_send.new.attempts c.call_and_send.result holds
    (sym c.is_of_names.ensures ∙ c.if-is_of_names.false)
    (sym c.is_of_cells.ensures ∙ c.if-is_of_cells.false) allowed
    (subst R c.of-sender.ensures sent)
    (c.call_and_send.ensures.called q s r holds allowed)
