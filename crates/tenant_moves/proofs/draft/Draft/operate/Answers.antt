use Rattle.std.proofs.Common.{sym, subst, OnOk}
use Rattle.std.specs.Arc.{arc_value}
use Rattle.std.specs.BTreeSet.{keys}
use Rattle.repl_replies.specs.Inside.Named.{session_of}
use Rattle.repl_replies.specs.Inside.View.{origin_view, operation_view}
use Rattle.repl_replies.specs.declared.operation.Operation.{Operation}
use Rattle.repl_replies.specs.declared.reply.Origin.{Origin}
use Rattle.server_rules.specs.Operating.{after_operation}
use Rattle.tenant_moves.specs.Scene.{scene, FollowsRules}
use Rattle.tenant_moves.specs.Served.{IsServed}
use Rattle.tenant_moves.proofs.draft.Draft.operate.Goals as goal

pub returns-in-Clone-clause-heard : goal.returns-in-Clone-clause-heard
returns-in-Clone-clause-heard c =
    let x = scene c.args.self.now c.args.sessions.now c.args.actors.now in
    let y = scene c.open.new.self c.open.new.sessions c.open.new.actors in
    let P : Origin → Operation → Type 0 = λ o op.
    OnOk c.open.result (FollowsRules (λ g t. after_operation g t (origin_view o) (operation_view op)) x y) in
    subst (λ o. P o c.args.operation) c.deref.ensures
    (subst (P c.deref.result.now) (sym c.in-Clone.is) c.open.ensures.heard)

pub returns-in-Close-clause-heard : goal.returns-in-Close-clause-heard
returns-in-Close-clause-heard c =
    let s = c.args.sessions.now in
    let x = scene c.args.self.now s c.args.actors.now in
    let y = scene c.close.new.self s c.args.actors.now in
    let served = subst (λ (op : Operation). IsServed (session_of (operation_view op)) (keys c.args.self.now.leaving) s.sessions) c.in-Close.is c.requires.served in
    let P : Origin → Operation → Type 0 = λ o op.
    OnOk c.close.result (FollowsRules (λ g t. after_operation g t (origin_view o) (operation_view op)) x y) in
    subst (λ o. P o c.args.operation) c.deref-in-Close.ensures
    (subst (P c.deref-in-Close.result.now) (sym c.in-Close.is)
    (c.close.ensures.heard s c.requires.seated served))

pub returns-in-Eval-clause-heard : goal.returns-in-Eval-clause-heard
returns-in-Eval-clause-heard c =
    let s = c.args.sessions.now in
    let x = scene c.args.self.now s c.args.actors.now in
    let served = subst (λ (op : Operation). IsServed (session_of (operation_view op)) (keys c.args.self.now.leaving) s.sessions) c.in-Eval.is c.requires.served in
    subst (λ (op : Operation). OnOk c.queue.result (FollowsRules (λ g t. after_operation g t (origin_view (arc_value c.args.origin)) (operation_view op)) x
    (scene c.queue.new.self s c.queue.new.actors))) (sym c.in-Eval.is) (c.queue.ensures.heard s c.requires.seated served)

pub returns-in-Eval-clause-kept : goal.returns-in-Eval-clause-kept
returns-in-Eval-clause-kept c = c.queue.ensures.kept c.args.sessions.now c.requires.seated

pub returns-in-LoadFile-clause-heard : goal.returns-in-LoadFile-clause-heard
returns-in-LoadFile-clause-heard c =
    let s = c.args.sessions.now in
    let x = scene c.args.self.now s c.args.actors.now in
    let queued = c.queue-in-LoadFile in
    let served = subst (λ (op : Operation). IsServed (session_of (operation_view op)) (keys c.args.self.now.leaving) s.sessions) c.in-LoadFile.is c.requires.served in
    subst (λ (op : Operation). OnOk queued.result (FollowsRules (λ g t. after_operation g t (origin_view (arc_value c.args.origin)) (operation_view op)) x
    (scene queued.new.self s queued.new.actors))) (sym c.in-LoadFile.is) (queued.ensures.heard s c.requires.seated served)

pub returns-in-LoadFile-clause-kept : goal.returns-in-LoadFile-clause-kept
returns-in-LoadFile-clause-kept c = c.queue-in-LoadFile.ensures.kept c.args.sessions.now c.requires.seated
