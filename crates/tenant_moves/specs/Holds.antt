-- The parts of a tenant that hearing changes, and those of the rules.
use Rattle.std.specs.Prelude.{◌≡◌, ℕ, suc, List, map}
use Rattle.repl_sessions.specs.Named.{NamedSessions}
use Rattle.repl_replies.specs.Replies.{bytes_of}
use Rattle.server_rules.specs.Ground.{Ground}
use Rattle.ref_table.specs.Numbered.{Entry}
use Rattle.server_rules.specs.Operating.{named_sessions}
use Rattle.server_rules.specs.Tenant.{ActorData, TenantState}
use Rattle.tenant_parts.specs.View.{AreBelow}

-- sessions, actors and the bytes of the replies that wait are those of the tenant
pub record PartsStandFor (g : Ground) (t : ℕ) (q : TenantState)
    (s : NamedSessions) (es : List (Entry ActorData)) (waiting : List (List ℕ)) : Type 0 where
  pub sessions : s ≡ named_sessions g t q
  pub actors : es ≡ q.actors
  pub replies : waiting ≡ map bytes_of q.replies

-- no actor is of a session that is yet to be made
abbrev pub AreSeated : NamedSessions → List (Entry ActorData) → Type 0
AreSeated sessions actors = AreBelow (suc (suc sessions.sessions.opened)) actors
