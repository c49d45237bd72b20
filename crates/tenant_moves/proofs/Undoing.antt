-- What was noted is undone.
use Rattle.std.proofs.Common.{◌≡◌, ℕ, suc, ◌+◌, List, [], ◌∷◌, ◌++◌, refl, sym, ap, ap₂, ◌∙◌, subst}
use Rattle.std.proofs.Common.{arith}
use Rattle.repl_sessions.specs.Named.{NamedSessions}
use Rattle.ref_table.specs.Numbered.{Entry, entry, without}
use Rattle.server_rules.specs.Tenant.{ActorData, unoccupied}
use Rattle.tenant_parts.specs.View.{AreBelow}
use Rattle.tenant_moves.specs.Holds.{AreSeated}
use Rattle.tenant_moves.specs.Undone.{SessionsAndActors, sessions_and_actors, retracted_named}
use Rattle.tenant_moves.specs.Undone.{undone, all_undone}
use Rattle.tenant_moves.specs.Scene.{Scene, IsKept}
use Rattle.tenant_moves.specs.declared.changes.LoggedChange.{LoggedChange}
use Rattle.tenant_moves.specs.declared.changes.LoggedChange.TheVariants as change
use Rattle.tenant_moves.proofs.Apart.{newest-out, below-more, below-added}

pub undone-last : (changes : List LoggedChange) (newest : LoggedChange) (p : SessionsAndActors)
    → all_undone (changes ++ newest ∷ []) p ≡ all_undone changes (undone newest p)
undone-last [] newest p = refl
undone-last (oldest ∷ changes) newest p = ap (undone oldest) (undone-last changes newest p)

-- one change more
pub kept-more : (x y : Scene) (newest : LoggedChange) → y.log ≡ x.log ++ newest ∷ []
    → undone newest (sessions_and_actors y.sessions y.actors) ≡ sessions_and_actors x.sessions x.actors → AreSeated y.sessions y.actors → IsKept x y
kept-more x y newest noted back seated = record {
  undone = ap (λ l. all_undone l (sessions_and_actors y.sessions y.actors)) noted
      ∙ undone-last x.log newest (sessions_and_actors y.sessions y.actors) ∙ ap (all_undone x.log) back;
  seated = seated;
}

pub cloned-back : (s s' : NamedSessions) (es es' : List (Entry ActorData)) (number : ℕ) → AreSeated s es → number ≡ s.sessions.opened
    → retracted_named s' ≡ s → es' ≡ es ++ entry (suc (suc number)) unoccupied ∷ []
    → undone (change.Cloned number) (sessions_and_actors s' es') ≡ sessions_and_actors s es
cloned-back s s' es es' number seated is back seat =
    ap₂ sessions_and_actors back
    (ap (without (suc (suc number))) seat
    ∙ newest-out (suc (suc number)) unoccupied es (below-more (suc (suc s.sessions.opened)) (suc (suc number)) es (omega (arith, is)) seated))

-- nothing was changed
pub kept-same : (x y : Scene) → AreSeated x.sessions x.actors → y.sessions ≡ x.sessions → y.actors ≡ x.actors → y.log ≡ x.log → IsKept x y
kept-same x y seated s es l = record {
  undone = ap₂ all_undone l (ap₂ sessions_and_actors s es);
  seated = subst (λ (n : NamedSessions). AreSeated n y.actors) (sym s) (subst (λ (a : List (Entry ActorData)). AreSeated x.sessions a) (sym es) seated);
}

pub kept-then : (x y z : Scene) → IsKept x y → IsKept y z → IsKept x z
kept-then x y z first second = record { undone = second.undone ∙ first.undone; seated = second.seated }

pub cloned-seated : (s s' : NamedSessions) (es es' : List (Entry ActorData)) (number : ℕ) → AreSeated s es → number ≡ s.sessions.opened
    → s'.sessions.opened ≡ s.sessions.opened + 1 → es' ≡ es ++ entry (suc (suc number)) unoccupied ∷ [] → AreSeated s' es'
cloned-seated s s' es es' number seated is up seat =
    let next = suc (suc s'.sessions.opened) in
    subst (λ (a : List (Entry ActorData)). AreBelow next a) (sym seat)
    (below-added next (suc (suc number)) unoccupied es (omega (arith, is, up)) (below-more (suc (suc s.sessions.opened)) next es (omega (arith, up)) seated))
