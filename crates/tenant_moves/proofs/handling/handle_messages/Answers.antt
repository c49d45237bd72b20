use Rattle.std.proofs.Common.{◌≡◌, subst, OnOk, Ok}
use Rattle.std.specs.BTreeSet.{keys}
use Rattle.std.specs.declared.result.Result.{Result}
use Rattle.tenant_parts.specs.View.{actors_view}
use Rattle.tenant_parts.specs.Replies.{waiting_bytes}
use Rattle.tenant_moves.specs.Scene.{scene}
use Rattle.tenant_moves.proofs.Drafting.{drafts-first, drafts-last, seated-last}
use Rattle.tenant_moves.proofs.handling.handle_messages.Goals as goal

on-ok : {T E : Type 0} (r : Result T E) (x : T) (P : Type 0) → r ≡ Ok x → OnOk r P → P
on-ok {T} {E} r x P is p = subst (λ (r : Result T E). OnOk r P) is p

pub returns-in-Ok-clause-taken : goal.returns-in-Ok-clause-taken
returns-in-Ok-clause-taken c = λ g t q held.
    let first = scene c.new-draft.result c.args.sessions.now c.args.actors.now in
    let last = scene c.fill-filled.new.self c.fill-filled.new.sessions c.fill-filled.new.actors in
    let waiting = waiting_bytes c.args.outbox.now in
    let comes = on-ok c.fill-filled.result tt _ c.in-Ok.ensures.filled c.fill-filled.ensures.heard in
    drafts-last g t _ waiting _ last _ _
    (comes g t q waiting (drafts-first g t q waiting first held c.new-draft.ensures.leaving c.new-draft.ensures.made))
    c.close_all.ensures.sessions c.close_all.ensures.actors c.in-Ok.ensures.posted

pub returns-in-Ok-clause-seated : goal.returns-in-Ok-clause-seated
returns-in-Ok-clause-seated c =
    seated-last (keys c.fill-filled.new.self.leaving) c.fill-filled.new.sessions _ (actors_view c.fill-filled.new.actors) _
    c.fill-filled.ensures.kept.seated c.close_all.ensures.sessions c.close_all.ensures.actors
