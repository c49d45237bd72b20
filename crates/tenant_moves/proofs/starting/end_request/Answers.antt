use Rattle.std.proofs.Common.{refl, sym, subst}
use Rattle.repl_sessions.specs.Inside.StateView.{state_view}
use Rattle.server_rules.specs.Moves.{closing_move}
use Rattle.tenant_parts.specs.View.{hand_view}
use Rattle.tenant_moves.specs.Told.{Adds}
use Rattle.tenant_moves.proofs.Behind.{closing_move-hand, tells-first}
use Rattle.tenant_moves.proofs.starting.end_request.Goals as goal

pub returns : goal.returns
returns c =
    let h = hand_view c.args.hand.now in
    let s = state_view c.args.state in
    let effects = c.new-effects.result in
    let told = subst (λ x. Adds (closing_move h.origin h.manner h.fault x) effects c.end_request.new.self)
    c.new-effects.ensures.state c.in_ok-end_request.ensures in
    record {
      told = tells-first (closing_move h.origin h.manner h.fault s) effects c.end_request.new.self
          c.new-effects.ensures.replies told;
      hand = sym (closing_move-hand h.origin h.manner h.fault s);
      answer = refl;
    }
