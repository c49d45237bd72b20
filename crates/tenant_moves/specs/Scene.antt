-- A tenant in the middle of a piece: sessions that were closed are still there, and leave at its
-- end.
use Rattle.std.specs.Prelude.{◌≡◌, ℕ, ◌<◌, List, [], ◌∷◌, ◌++◌, map, true}
use Rattle.std.specs.BTreeSet.{keys}
use Rattle.repl_sessions.specs.Named.{NamedSessions}
use Rattle.repl_sessions.specs.Inside.Leaving.{is_leaving, remaining_sessions}
use Rattle.repl_replies.specs.Replies.{bytes_of}
use Rattle.server_rules.specs.Ground.{Ground}
use Rattle.ref_table.specs.Numbered.{Entry}
use Rattle.server_rules.specs.Operating.{ids_for}
use Rattle.server_rules.specs.Tenant.{ActorData, TenantState, seat_of}
use Rattle.server_rules.specs.declared.actor.Actor.{Actor}
use Rattle.tenant_parts.specs.Queues.{vacated_at}
use Rattle.tenant_parts.specs.View.{actors_view}
use Rattle.tenant_parts.specs.declared.actors.Actors.{Actors}
use Rattle.tenant_parts.specs.Replies.{made_bytes}
use Rattle.tenant_moves.specs.Undone.{sessions_and_actors, all_undone}
use Rattle.tenant_moves.specs.Holds.{AreSeated}
use Rattle.tenant_moves.specs.declared.draft.Draft.{Draft}
use Rattle.tenant_moves.specs.declared.changes.LoggedChange.{LoggedChange}

pub record Scene : Type 0 where
  pub sessions : NamedSessions
  pub actors : List (Entry ActorData)
  -- what was changed, oldest first
  pub log : List LoggedChange
  -- the sessions that leave at the end, and the bytes of the replies that were made
  pub leaving : List ℕ
  pub made : List (List ℕ)

abbrev pub scene : Draft → NamedSessions → Actors → Scene
scene draft sessions actors = record {
  sessions = sessions;
  actors = actors_view actors;
  log = draft.log.items;
  leaving = keys draft.leaving;
  made = made_bytes draft.batch;
}

-- the seats of the sessions of these numbers are vacated
abbrev pub all_vacated : List ℕ → List (Entry ActorData) → List (Entry ActorData)
all_vacated [] es = es
all_vacated (n ∷ ns) es = all_vacated ns (vacated_at (seat_of (Actor.Session n)) es)

-- once those that are leaving have left, and what was made waits behind what waits, the tenant is
-- that of the rules
pub record Drafts (g : Ground) (t : ℕ) (q : TenantState) (waiting : List (List ℕ)) (x : Scene)
    : Type 0 where
  pub ids : x.sessions.ids ≡ ids_for g t
  pub sessions : q.sessions ≡ remaining_sessions x.leaving x.sessions.sessions
  pub actors : q.actors ≡ all_vacated x.leaving x.actors
  pub replies : map bytes_of q.replies ≡ waiting ++ x.made
  pub given : (n : ℕ) → is_leaving x.leaving n ≡ true → n < x.sessions.sessions.opened

-- what was so by the rules comes to what this makes of it
abbrev pub FollowsRules : (Ground → ℕ → TenantState → TenantState) → Scene → Scene → Type 0
FollowsRules step old new = (g : Ground) (t : ℕ) (q : TenantState) (waiting : List (List ℕ))
    → Drafts g t q waiting old → Drafts g t (step g t q) waiting new

-- what was changed can be undone, and the next session finds its seat free
pub record IsKept (old new : Scene) : Type 0 where
  pub undone : all_undone new.log (sessions_and_actors new.sessions new.actors)
      ≡ all_undone old.log (sessions_and_actors old.sessions old.actors)
  pub seated : AreSeated new.sessions new.actors
