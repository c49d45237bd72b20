use Rattle.std.proofs.Common.{◌≡◌, ◌∙◌, sym, ap, refl, subst, suc, List, [], ◌∷◌, ◌++◌}
use Rattle.ref_table.specs.Numbered.{Entry}
use Rattle.server_rules.specs.Operating.{asker}
use Rattle.server_rules.specs.Tenant.{ActorData, seat_of}
use Rattle.server_rules.specs.declared.actor.Actor.{Actor}
use Rattle.tenant_parts.specs.Queues.{with_changed_actor, with_request}
use Rattle.tenant_parts.specs.View.{waiting_view, actors_view, AreBelow}
use Rattle.tenant_moves.specs.Scene.{scene}
use Rattle.tenant_moves.specs.Undone.{sessions_and_actors}
use Rattle.tenant_moves.specs.declared.changes.LoggedChange.{LoggedChange}
use Rattle.tenant_moves.specs.declared.changes.LoggedChange.TheVariants as change
use Rattle.tenant_moves.proofs.Drafting.{comes-with_queued_request}
use Rattle.tenant_moves.proofs.Undoing.{kept-more}
use Rattle.tenant_moves.proofs.Vacating.{below-changed}
use Rattle.tenant_moves.proofs.draft.Draft.queue.Goals as goal

pub returns-clause-heard : goal.returns-clause-heard
returns-clause-heard c = λ s seated served.
    let w = waiting_view c.args.request in
    let queued : actors_view c.queue.new.self ≡ with_changed_actor (seat_of (asker c.args.session)) (with_request w) (actors_view c.args.actors.now) =
    c.in_ok-queue.ensures.queued ∙ ap (λ (a : Actor). with_changed_actor (seat_of a) (with_request w) (actors_view c.args.actors.now)) c.asker-actor.ensures in
    comes-with_queued_request c.args.session w (scene c.args.self.now s c.args.actors.now) _ served refl queued refl refl

pub returns-clause-kept : goal.returns-clause-kept
returns-clause-kept c = λ s seated.
    let w = waiting_view c.args.request in
    let a = c.asker-actor.result in
    let was = actors_view c.args.actors.now in
    kept-more (scene c.args.self.now s c.args.actors.now) _ (change.Queued a)
    (c.note.ensures ∙ ap (λ (l : List LoggedChange). l ++ change.Queued a ∷ []) c.in_ok-reserve.ensures.items)
    (ap (sessions_and_actors s) c.in_ok-queue.ensures.undone)
    (subst (λ (es : List (Entry ActorData)). AreBelow (suc (suc s.sessions.opened)) es) (sym c.in_ok-queue.ensures.queued)
    (below-changed (suc (suc s.sessions.opened)) (seat_of a) (with_request w) was seated))
