-- A tenant, without its refs and read points.
use Rattle.std.specs.Prelude.{ℕ, zero, suc, List, [], ◌∷◌, ◌++◌, Bool, false, Option, None, nat_le}
use Rattle.std.specs.Prelude.{length, unwrap_or}
use Rattle.repl_sessions.specs.State.{StateData, fresh}
use Rattle.repl_sessions.specs.Sessions as sessions
use Rattle.repl_sessions.specs.Sessions.{SessionsData, none_open, with_change}
use Rattle.name_spaces.specs.Namespaces.{Namespaces, at_start}
use Rattle.repl_replies.specs.Replies.{ReplyData}
use Rattle.ref_table.specs.Numbered.{Entry, entry, with_part}
use Rattle.server_rules.specs.Cells.{CellsData, no_cells}
use Rattle.server_rules.specs.Request.{Waiting, WorkInHand}
use Rattle.server_rules.specs.Ground.{Ground}
use Rattle.server_rules.specs.declared.actor.Actor.{Actor}
use Rattle.server_rules.specs.declared.limits.TheConstants.{MOST_REPLIES}

-- an actor runs the forms of its requests, one after another; that of agents, to which no request
-- comes, runs actions
pub record ActorData : Type 0 where
  -- the requests that wait, oldest first, and the one in hand
  pub waiting : List Waiting
  pub hand : Option WorkInHand
  -- whether its session was closed while that one was in hand
  pub is_closed : Bool

abbrev pub unoccupied : ActorData
unoccupied = record { waiting = []; hand = None; is_closed = false }

-- the number by which an actor is named: 0 that of agents, 1 that of requests without a session, and
-- then those of sessions
abbrev pub seat_of : Actor → ℕ
seat_of Actor.Agents = 0
seat_of Actor.Bare = 1
seat_of (Actor.Session n) = suc (suc n)

abbrev pub actor_at : ℕ → Actor
actor_at zero = Actor.Agents
actor_at (suc zero) = Actor.Bare
actor_at (suc (suc n)) = Actor.Session n

pub record TenantState : Type 0 where
  -- how many more pieces, and starts, asks and ends of forms it takes
  pub steps : ℕ
  -- the bytes of the stream so far
  pub heard : List ℕ
  pub sessions : SessionsData
  -- what a request without a session remembers
  pub bare : StateData
  pub spaces : Namespaces
  -- its atoms and agents
  pub cells : CellsData
  -- by their seats, those of sessions in order of creation
  pub actors : List (Entry ActorData)
  -- the replies that wait, oldest first
  pub replies : List ReplyData

abbrev pub opened_state : Ground → TenantState
opened_state g = record {
  steps = g.steps;
  heard = [];
  sessions = none_open;
  bare = fresh;
  spaces = at_start;
  cells = no_cells;
  actors = entry (seat_of Actor.Agents) unoccupied ∷ entry (seat_of Actor.Bare) unoccupied ∷ [];
  replies = [];
}

-- so many waiting replies hold back whatever may add more
abbrev pub is_held : TenantState → Bool
is_held q = nat_le MOST_REPLIES (length q.replies)

abbrev pub with_actor : Actor → ActorData → TenantState → TenantState
with_actor a actor q = record q { actors = with_part (seat_of a) actor q.actors }

abbrev pub with_replies : List ReplyData → TenantState → TenantState
with_replies more q = record q { replies = q.replies ++ more }

-- what the session of an actor remembers; to an action no session tells anything
abbrev pub actor_state : Actor → TenantState → StateData
actor_state Actor.Agents q = fresh
actor_state Actor.Bare q = q.bare
actor_state (Actor.Session n) q = unwrap_or (sessions.state_of q.sessions n) fresh

abbrev pub with_state : Actor → StateData → TenantState → TenantState
with_state Actor.Agents state q = q
with_state Actor.Bare state q = record q { bare = state }
with_state (Actor.Session n) state q =
    record q { sessions = with_change q.sessions n (λ old. state) }
