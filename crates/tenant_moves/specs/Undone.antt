-- What messages changed is undone, the newest change first.
use Rattle.std.specs.Prelude.{List, [], ◌∷◌}
use Rattle.repl_sessions.specs.Named.{NamedSessions}
use Rattle.repl_sessions.specs.Inside.Retracted.{without_newest_session}
use Rattle.ref_table.specs.Numbered.{Entry, without}
use Rattle.server_rules.specs.Tenant.{ActorData, seat_of}
use Rattle.server_rules.specs.declared.actor.Actor.{Actor}
use Rattle.tenant_parts.specs.Queues.{with_changed_actor, without_newest}
use Rattle.tenant_moves.specs.declared.changes.LoggedChange.{LoggedChange}

-- what messages change, but for the replies
pub record SessionsAndActors : Type 0 where
  pub sessions : NamedSessions
  pub actors : List (Entry ActorData)

abbrev pub sessions_and_actors : NamedSessions → List (Entry ActorData) → SessionsAndActors
sessions_and_actors sessions actors = record { sessions = sessions; actors = actors }

abbrev pub retracted_named : NamedSessions → NamedSessions
retracted_named s = record s { sessions = without_newest_session s.sessions }

abbrev pub undone : LoggedChange → SessionsAndActors → SessionsAndActors
undone (LoggedChange.Cloned number) p = record {
  sessions = retracted_named p.sessions;
  actors = without (seat_of (Actor.Session number)) p.actors;
}
undone (LoggedChange.Queued actor) p =
    record p { actors = with_changed_actor (seat_of actor) without_newest p.actors }

-- the last change is the newest
abbrev pub all_undone : List LoggedChange → SessionsAndActors → SessionsAndActors
all_undone [] p = p
all_undone (change ∷ changes) p = undone change (all_undone changes p)
