use Rattle.std.proofs.Common.{◌∙◌, sym, ap, refl, ℕ, List, [], ◌∷◌, ◌++◌, map, append_assoc}
use Rattle.std.proofs.lemmas.List.{map-append}
use Rattle.repl_replies.specs.Replies.{bytes_of, closed}
use Rattle.repl_replies.specs.Inside.View.{origin_view}
use Rattle.server_rules.specs.Operating.{interruption}
use Rattle.server_rules.specs.Replying.{reply}
use Rattle.tenant_parts.specs.View.{actor_view}
use Rattle.tenant_parts.specs.Replies.{made_bytes}
use Rattle.tenant_moves.specs.Scene.{scene}
use Rattle.tenant_moves.proofs.Drafting.{comes-absent, comes-closed}
use Rattle.tenant_moves.proofs.draft.Draft.close.Goals as goal

pub returns-in_default-clause-heard : goal.returns-in_default-clause-heard
returns-in_default-clause-heard c = λ s seated served.
    comes-absent (origin_view c.args.origin.now) c.args.number (scene c.args.self.now s c.args.actors.now) served (sym c.in_default.ensures)

pub returns-clause-heard : goal.returns-clause-heard
returns-clause-heard c = λ s seated served.
    let o = origin_view c.args.origin.now in
    let actor = actor_view c.in-Some.actor.now in
    let was = made_bytes c.args.self.now.batch in
    let interrupted = map interruption actor.waiting in
    comes-closed o c.args.number (scene c.args.self.now s c.args.actors.now) _ actor seated served (sym c.in-Some.ensures)
    refl refl c.in_ok-insert.ensures.keys
    (c.in_ok-add.ensures
    ∙ ap (λ (l : List (List ℕ)). l ++ map bytes_of (reply o closed ∷ [])) c.in_ok-add_interruptions.ensures
    ∙ append_assoc was (map bytes_of interrupted) (map bytes_of (reply o closed ∷ []))
    ∙ ap (λ (l : List (List ℕ)). was ++ l) (sym (map-append bytes_of interrupted (reply o closed ∷ []))))
