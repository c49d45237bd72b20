use Rattle.std.proofs.Common.{ap, ◌∙◌, map}
use Rattle.repl_asks.specs.Inside.View.{ask_view}
use Rattle.server_rules.specs.Cells.{with_agents}
use Rattle.tenant_parts.specs.AnswerCopies.{told_answer}
use Rattle.tenant_asks.specs.Cells.{cells_data}
use Rattle.tenant_asks.specs.Sends.{all_sent_if, committed_sends, is_told_yes, outgoing_from}
use Rattle.tenant_asks.specs.Sends.{outgoing_view, sender_view}
use Rattle.tenant_asks.proofs.Sending.{settled}
use Rattle.tenant_asks.proofs.asking.call_and_send.Goals as goal

pub returns-clause-sent : goal.returns-clause-sent
returns-clause-sent c =
    let cells = cells_data c.args.cells.now in
    let sender = sender_view c.args.sender in
    let yes = is_told_yes (told_answer c.in_ok-told.told) in
    ap (λ x. with_agents x cells) (c.settle.ensures
    ∙ ap (all_sent_if yes (map outgoing_view c.in_ok-prepared.prepared.items)) c.prepare.ensures.same
    ∙ ap (λ os. all_sent_if yes os cells.agents)
    (c.in_ok-prepared.ensures.made ∙ ap (map (outgoing_from sender)) c.sends_of.ensures))
    ∙ settled yes sender (committed_sends (ask_view c.args.ask.now)) cells
