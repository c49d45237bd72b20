use Rattle.std.proofs.Common.{sym, ap, ◌∙◌}
use Rattle.std.proofs.Common.{option_map}
use Rattle.std.specs.BinaryHeap.{heap_items}
use Rattle.private_cells.specs.Agents.{ActionTurn}
use Rattle.private_cells.specs.Inside.Seen.{cells_view}
use Rattle.private_cells.specs.Inside.View.{agents_view}
use Rattle.private_cells.proofs.Next.{next_is, next_none}
use Rattle.private_cells.proofs.Quieting.{quiet, next_while_running}
use Rattle.private_cells.proofs.agents.Agents.next_agent.Goals as goal

pub returns-then-is_some : goal.returns-then-is_some
returns-then-is_some c =
    let self = c.args.self.now in
    sym (ap (option_map (λ (turn : ActionTurn). turn.agent))
    (next_while_running self.running (agents_view self) self.alone
    (sym c.is_some.ensures ∙ c.if-is_some.true)))

pub returns-in_default : goal.returns-in_default
returns-in_default c =
    let self = c.args.self.now in
    let still = quiet self.running (cells_view self.cells.items) self.alone
    (sym c.is_some.ensures ∙ c.if-is_some.false) in
    sym (ap (option_map (λ (turn : ActionTurn). turn.agent))
    (next_none (heap_items self.turns.heap) (agents_view self) self.turns_kept still
    c.in_default.ensures.none))

pub returns : goal.returns
returns c =
    let self = c.args.self.now in
    let still = quiet self.running (cells_view self.cells.items) self.alone
    (sym c.is_some.ensures ∙ c.if-is_some.false) in
    sym (ap (option_map (λ (turn : ActionTurn). turn.agent))
    (next_is (heap_items self.turns.heap) (agents_view self) c.in-Some.turn self.turns_kept still
    c.in-Some.ensures.there c.in-Some.ensures.first))
