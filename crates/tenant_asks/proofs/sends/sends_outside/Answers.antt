use Rattle.std.proofs.Common.{rules, ◌≡◌, ◌∙◌, ◌+◌, [], ◌∷◌, ◌++◌, ap, drop, map, option_map, subst, sym}
use Rattle.std.proofs.lemmas.List.{drop_more, map-append}
use Rattle.repl_asks.specs.Exchange.{Exchanged}
use Rattle.repl_asks.specs.Inside.View.{ask_view, answer_view, exchange_view, sending_view}
use Rattle.repl_asks.specs.declared.exchange.Exchange.{Exchange}
use Rattle.server_rules.specs.Cells.{sends_by, stays_inside}
use Rattle.tenant_parts.specs.View.{kept_trace}
use Rattle.tenant_asks.specs.Sends.{sends_listed, outgoing_from, outgoing_in, outgoing_view, sender_view}
use Rattle.tenant_asks.proofs.Sending.{sent-step}
use Rattle.tenant_asks.proofs.sends.sends_outside.Goals as goal
use Rattle.tenant_asks.proofs.sends.sends_outside.Goals.{in-Some+in_ok-to_send+in_ok-push_back, in_default}

pub loop-exchange-preserved : goal.loop-exchange-preserved
loop-exchange-preserved c =
    let s = sender_view c.args.sender in
    let items = c.args.trace.now in
    let i = c.loop-exchange.exchange-index in
    let kept = c.exchange-item.result in
    let x : Exchanged = exchange_view kept.value in
    let inside = c.loop-exchange.is_inside in
    let later = c.stays_inside-is_inside.result in
    let before = map outgoing_view c.loop-exchange.sends.items in
    let rest = kept_trace (drop (i + 1) items) in
    let found = option_map (λ y. sending_view y.now) c.sent_by.result in
    let front : kept_trace (drop i items) ≡ x ∷ rest =
    ap kept_trace (drop_more items i kept c.loop-exchange-test.true
    ∙ ap (λ y. y ∷ drop (i + 1) items) (sym c.exchange-item.is)) in
    let told : sends_listed found ≡ sends_by inside x.ask x.answer =
    subst (λ (e : Exchange). sends_listed found ≡ sends_by inside (ask_view e.ask) (answer_view e.answer))
    c.deref.ensures c.sent_by.ensures in
    let stays : later ≡ stays_inside inside x.ask x.answer =
    subst (λ (e : Exchange). later ≡ stays_inside inside (ask_view e.ask) (answer_view e.answer))
    c.deref-in-loop-exchange.ensures c.stays_inside-is_inside.ensures in
    let grown : map outgoing_view c.match-sent_by.sends.items
    ≡ before ++ map (outgoing_from s) (sends_listed found) =
    elim c.match-sent_by.branch [
      | in-Some+in_ok-to_send+in_ok-push_back w ↦
          let o = w.in_ok-to_send.field-0 in
          let items-are : c.match-sent_by.sends.items ≡ c.loop-exchange.sends.items ++ o ∷ [] = search rules in
          ap (map outgoing_view) items-are
          ∙ map-append outgoing_view c.loop-exchange.sends.items (o ∷ [])
          ∙ ap (λ y. before ++ y ∷ []) w.in_ok-to_send.ensures
          ∙ ap (λ r. before ++ map (outgoing_from s) (sends_listed (option_map (λ y. sending_view y.now) r)))
          (sym w.in-Some.is)
      | in_default w ↦ search rules
    ] in
    ap (λ b. b ++ outgoing_in s later rest) grown
    ∙ ap (λ b. (before ++ map (outgoing_from s) (sends_listed found)) ++ outgoing_in s b rest) stays
    ∙ sent-step s before found inside x rest told
    ∙ ap (λ l. before ++ outgoing_in s inside l) (sym front)
    ∙ c.loop-exchange.invariant
