use Rattle.std.proofs.Common.{◌∙◌, sym}
use Rattle.repl_asks.specs.Inside.Jobs.{finished_view}
use Rattle.tenant_parts.specs.View.{hand_view}
use Rattle.tenant_moves.specs.Told.{told_state}
use Rattle.tenant_moves.proofs.Behind.{ends-over}
use Rattle.tenant_moves.proofs.ending.go_on_behind.Goals as goal

pub returns-then-is_last : goal.returns-then-is_last
returns-then-is_last c =
    let h = record (hand_view c.args.hand.now) {
      namespace = (finished_view c.args.finished.now).namespace;
    } in
    ends-over h (hand_view c.args.hand.now) (told_state c.args.effects.now) c.args.effects.now c.end_request.new.self
    (sym c.is_last.ensures ∙ c.if-is_last.true) c.in_ok-end_request.ensures
