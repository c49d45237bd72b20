use Rattle.std.proofs.Common.{◌≡◌, ◌∙◌, refl, sym, ap, ◌++◌, length, is_some, Option, arith}
use Rattle.std.proofs.lemmas.Grind.{common_steps}
use Rattle.std.proofs.lemmas.List.{length-map}
use Rattle.bencode_wire.specs.Inside.View.{tree_view}
use Rattle.bencode_wire.specs.Inside.Course.{ready_view}
use Rattle.bencode_wire.specs.Inside.Decoder.{ready_of, fault_of}
use Rattle.bencode_wire.specs.declared.fault.WireFault.{WireFault}
use Rattle.server_rules.specs.Readings.{message_limit}
use Rattle.server_rules.specs.Tenant.{TenantState}
use Rattle.tenant_moves.specs.Holds.{PartsStandFor}
use Rattle.tenant_moves.proofs.Hearings.{heard-all, parts-same, on-err}
use Rattle.tenant_moves.proofs.hearing.hear.Goals as goal

pub returns-in-Ok-clause-heard : goal.returns-in-Ok-clause-heard
returns-in-Ok-clause-heard c = λ g t q right reads held.
    let piece = c.args.piece.now in
    let all = q.heard ++ piece in
    let before = (g.readings.stream q.heard).messages in
    let messages = ready_view c.take_ready-messages.result.items in
    let fed = c.in_ok-is_broken.ensures.stands message_limit q.heard before reads.stands in
    let taken = c.settle.ensures.stands message_limit all (before ++ messages) (c.take_ready-messages.ensures.stands message_limit all before fed) in
    let same = c.settle.ensures.unchanged in
    let none = same.ready ∙ ap ready_of c.take_ready-messages.ensures.taken in
    let fault : fault_of c.settle.new.self ≡ fault_of c.feed_piece.new.decoder = same.fault ∙ ap fault_of c.take_ready-messages.ensures.taken in
    let broken = c.in_ok-is_broken.ensures.broken ∙ ap (λ (o : Option WireFault). is_some o) (sym fault) in
    let long : length messages ≡ length c.take_ready-messages.result.items = length-map c.take_ready-messages.result.items tree_view in
    let count : c.len-count.result ≡ length messages = grind (arith, common_steps, c.len-count.ensures, long) in
    let start : TenantState = record q { heard = all } in
    let first : PartsStandFor g t start c.args.sessions.now _ _ = record { sessions = held.sessions; actors = held.actors; replies = held.replies } in
    heard-all g t q piece messages c.in_ok-is_broken.is_broken c.len-count.result c.settle.new.self _ _ _ right taken none broken count
    (c.in-Ok.ensures.taken g t start first)

pub returns-in-Err-clause-stays : goal.returns-in-Err-clause-stays
returns-in-Err-clause-stays c = (
  λ g bytes reads.
      let before = (g.readings.stream bytes).messages in
      let back = c.take_ready-messages.ensures.returns message_limit bytes before (c.in_ok-is_broken.ensures.returns message_limit bytes before reads.stands c.requires.ready) in
      record {
        stands = c.take_back.ensures.stands message_limit bytes before back;
        ready = c.take_back.ensures.ready message_limit bytes before back;
        fault = c.take_back.ensures.fault message_limit bytes before back ∙ sym c.requires.sound ∙ reads.fault;
      },
  parts-same c.in-Err.ensures.sessions_stay c.in-Err.ensures.actors_stay c.in-Err.ensures.replies_stay,
)

pub returns-in_err-is_broken-clause-stays : goal.returns-in_err-is_broken-clause-stays
returns-in_err-is_broken-clause-stays c =
    let same = c.in_err-is_broken.ensures.stays in
    on-err c.from_residual.result (
      λ g bytes reads. record {
        stands = c.in_err-is_broken.ensures.keeps message_limit bytes _ reads.stands;
        ready = same.ready ∙ reads.ready;
        fault = same.fault ∙ reads.fault;
      },
      refl,
    )

pub returns-in-Err-clause-ready : goal.returns-in-Err-clause-ready
returns-in-Err-clause-ready c = c.take_back.ensures.nothing (ap ready_of c.take_ready-messages.ensures.taken)
