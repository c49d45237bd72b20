use Rattle.std.proofs.Common.{◌∷◌, [], Ok, Err, OnOk, subst}
use Rattle.std.proofs.lemmas.Result.{on_ok_weaker}
use Rattle.bencode_wire.specs.Inside.View.{entries_view}
use Rattle.repl_replies.specs.Inside.View.{asked_view, reply_view, origin_view, operation_view}
use Rattle.repl_replies.specs.declared.reply.Origin.{Origin}
use Rattle.server_rules.specs.Operating.{after_operation}
use Rattle.tenant_moves.specs.Scene.{FollowsRules}
use Rattle.tenant_moves.specs.Scene.{scene}
use Rattle.tenant_moves.proofs.Drafting.{comes-asked, comes-replied}
use Rattle.tenant_moves.proofs.draft.Draft.hear_fields.Goals as goal

pub returns-in_ok-origin-in-Ok-clause-heard : goal.returns-in_ok-origin-in-Ok-clause-heard
returns-in_ok-origin-in-Ok-clause-heard c =
    let x = scene c.args.self.now c.args.sessions.now c.args.actors.now in
    let y = scene c.operate.new.self c.operate.new.sessions c.operate.new.actors in
    let asked = c.in-Ok.field-0 in
    let P : Origin → Type 0 = λ o. OnOk c.operate.result (FollowsRules
    (λ g t. after_operation g t (origin_view o) (operation_view asked.operation)) x y) in
    on_ok_weaker c.operate.result (λ comes.
    comes-asked (entries_view c.args.fields.entries) (Ok (asked_view asked)) x y c.in-Ok.ensures.asked comes)
    (subst P c.in_ok-origin-in-Ok.ensures.ok c.operate.ensures.heard)

pub returns-in-Err-clause-heard : goal.returns-in-Err-clause-heard
returns-in-Err-clause-heard c =
    let x = scene c.args.self.now c.args.sessions.now c.args.actors.now in
    let refusal = reply_view c.in-Err.field-0 in
    on_ok_weaker c.add.result (λ added.
    comes-asked (entries_view c.args.fields.entries) (Err refusal) x _ c.in-Err.ensures.asked (comes-replied (refusal ∷ []) x _ added))
    c.add.ensures
