use Rattle.std.proofs.Common.{◌≡◌, ◌∙◌, ap, ap₂, refl, ℕ, ◌+◌, List, [], ◌∷◌, ◌++◌, map}
use Rattle.std.specs.BTreeSet.{keys}
use Rattle.std.proofs.lemmas.Result.{on_ok_weaker}
use Rattle.repl_sessions.specs.Ids.{IdsData}
use Rattle.repl_sessions.specs.Named.{NamedSessions}
use Rattle.repl_sessions.specs.Sessions.{SessionsData}
use Rattle.repl_replies.specs.Replies as replies
use Rattle.repl_replies.specs.Replies.{bytes_of}
use Rattle.repl_replies.specs.Inside.View.{origin_view}
use Rattle.server_rules.specs.Replying.{reply}
use Rattle.tenant_parts.specs.View.{actors_view}
use Rattle.tenant_moves.specs.Scene.{scene}
use Rattle.tenant_moves.specs.Undone.{retracted_named}
use Rattle.tenant_moves.specs.declared.changes.LoggedChange.{LoggedChange}
use Rattle.tenant_moves.specs.declared.changes.LoggedChange.TheVariants as change
use Rattle.tenant_moves.proofs.Drafting.{comes-with_clone_of}
use Rattle.tenant_moves.proofs.Remaining.{open-still}
use Rattle.tenant_moves.proofs.Undoing.{kept-more, cloned-back, cloned-seated}
use Rattle.tenant_moves.proofs.draft.Draft.open.Goals as goal

pub clone_of-requires : goal.clone_of-requires
clone_of-requires c = λ n named.
    open-still (keys c.args.self.now.leaving) n c.args.sessions.now.sessions (c.requires.served n named)

pub returns-in_err-id-clause-kept : goal.returns-in_err-id-clause-kept
returns-in_err-id-clause-kept c =
    let s = c.args.sessions.now in
    let s' = c.clone_of.new.self in
    let es = actors_view c.args.actors.now in
    let es' = actors_view c.open.new.self in
    let number = c.in_ok-number.number in
    let is = c.in_ok-number.ensures.number in
    let made = c.in_ok-number.ensures.cloned in
    let back : retracted_named s' ≡ s =
    ap₂ (λ (i : IdsData) (x : SessionsData). record { ids = i; sessions = x }) (ap (λ (x : NamedSessions). x.ids) made) c.in_ok-number.ensures.undone in
    let up : s'.sessions.opened ≡ s.sessions.opened + 1 = ap (λ (x : NamedSessions). x.sessions.opened) made in
    kept-more (scene c.args.self.now s c.args.actors.now) _ (change.Cloned number)
    (c.note.ensures ∙ ap (λ (l : List LoggedChange). l ++ change.Cloned number ∷ []) c.in_ok-reserve.ensures.items)
    (cloned-back s s' es es' number c.requires.seated is back c.in_default.ensures.added)
    (cloned-seated s s' es es' number c.requires.seated is up c.in_default.ensures.added)

pub returns-clause-kept : goal.returns-clause-kept
returns-clause-kept c =
    let s = c.args.sessions.now in
    let s' = c.clone_of.new.self in
    let es = actors_view c.args.actors.now in
    let es' = actors_view c.open.new.self in
    let number = c.in_ok-number.number in
    let is = c.in_ok-number.ensures.number in
    let made = c.in_ok-number.ensures.cloned in
    let back : retracted_named s' ≡ s =
    ap₂ (λ (i : IdsData) (x : SessionsData). record { ids = i; sessions = x }) (ap (λ (x : NamedSessions). x.ids) made) c.in_ok-number.ensures.undone in
    let up : s'.sessions.opened ≡ s.sessions.opened + 1 = ap (λ (x : NamedSessions). x.sessions.opened) made in
    kept-more (scene c.args.self.now s c.args.actors.now) _ (change.Cloned number)
    (c.note.ensures ∙ ap (λ (l : List LoggedChange). l ++ change.Cloned number ∷ []) c.in_ok-reserve.ensures.items)
    (cloned-back s s' es es' number c.requires.seated is back c.in_default.ensures.added)
    (cloned-seated s s' es es' number c.requires.seated is up c.in_default.ensures.added)

pub returns-clause-heard : goal.returns-clause-heard
returns-clause-heard c =
    let o = origin_view c.args.origin.now in
    let x = scene c.args.self.now c.args.sessions.now c.args.actors.now in
    let number = c.in_ok-number.number in
    on_ok_weaker c.add.result (λ added.
    comes-with_clone_of o c.args.original x _ number c.requires.served c.in_ok-number.ensures.number c.in_ok-number.ensures.cloned
    c.in_default.ensures.added refl
    (added ∙ ap (λ (i : List ℕ). x.made ++ map bytes_of (reply o (replies.new_session i) ∷ [])) c.in_ok-id.ensures))
    c.add.ensures
