-- The turns of a tenant that is served alone, and what a list of them serves.
use Rattle.std.specs.Prelude.{ℕ, List, [], ◌∷◌, ◌++◌, Some, map, filter, Bool, true, false, not}
use Rattle.ref_table.specs.Store.{Around, Own, Store}
use Rattle.server_rules.specs.Ground.{Ground}
use Rattle.server_rules.specs.Tenant.{TenantState, opened_state}
use Rattle.server_rules.specs.Tenant.{actor_at}
use Rattle.server_rules.specs.Plan.{Deed, Outcome, refuses, leaves}
use Rattle.server_rules.specs.Plan as deeds
use Rattle.server_rules.specs.Honest.{honest_deed}
use Rattle.server_rules.specs.Plan.{bytes_in}
use Rattle.server_rules.specs.declared.actor.Actor.{Actor}
use Rattle.server_rules.specs.declared.refusal.Refusal.{Refusal}
use Rattle.server_rules.specs.DeedResult.{DeedResult, deed_result}

-- A turn: a piece of the stream is heard, an actor goes on as its evaluation says, or the oldest
-- reply is taken out.
pub data LoneTurn : Type 0 where
  hears : List ℕ → LoneTurn
  goes : Actor → LoneTurn
  drains : LoneTurn

-- a tenant that is served alone, and what it reaches of the refs
pub record LoneTenant : Type 0 where
  pub state : TenantState
  pub store : Store

-- it begins as the tenant with the first number, and has no refs of its own
abbrev pub opened_lone : Ground → LoneTenant
opened_lone g =
    let around : Around = record { counter = 0; refs = g.shared.refs } in
    let mine : Own = record { refs = []; points = [] } in
    record { state = opened_state g; store = record { around = around; tenant = 0; mine = mine } }

-- what a turn makes of the tenant, with the bytes that it gives; or why it is refused
pub data LoneStepped : Type 0 where
  accepted : LoneTenant → List ℕ → LoneStepped
  refused : Refusal → LoneStepped

abbrev pub deed_of : Ground → LoneTenant → LoneTurn → Deed
deed_of g l (hears piece) = deeds.hears piece
deed_of g l (goes a) = honest_deed g a (Some (Some l.state))
deed_of g l drains = deeds.drains

abbrev pub lone_ended : Store → Outcome → LoneStepped
lone_ended s (refuses why) = refused why
lone_ended s (leaves q answer) = accepted (record { state = q; store = s }) (bytes_in answer)

abbrev pub stepped_as : DeedResult → LoneStepped
stepped_as d = lone_ended d.store d.outcome

unfoldable pub lone_step : Ground → LoneTenant → LoneTurn → LoneStepped
lone_step g l turn = stepped_as (deed_result g l.store l.state (deed_of g l turn))

-- a refused turn leaves the tenant as it was, and gives nothing
abbrev pub lone_or : LoneTenant → LoneStepped → LoneTenant
lone_or old (accepted new bytes) = new
lone_or old (refused why) = old

abbrev pub reply_taken : LoneStepped → List ℕ
reply_taken (accepted new bytes) = bytes
reply_taken (refused why) = []

abbrev pub lone_after : Ground → LoneTenant → LoneTurn → LoneTenant
lone_after g l turn = lone_or l (lone_step g l turn)

abbrev pub lone_run : Ground → LoneTenant → List LoneTurn → LoneTenant
lone_run g l [] = l
lone_run g l (turn ∷ turns) = lone_run g (lone_after g l turn) turns

-- what a list of turns serves: the bytes that its turns give, joined
abbrev pub lone_served : Ground → LoneTenant → List LoneTurn → List ℕ
lone_served g l [] = []
lone_served g l (turn ∷ turns) = reply_taken (lone_step g l turn)
    ++ lone_served g (lone_after g l turn) turns

abbrev pub is_of_agents : Actor → Bool
is_of_agents Actor.Agents = true
is_of_agents a = false

-- that of agents is the last
abbrev pub agents_last : List Actor → List Actor
agents_last actors = filter (λ a. not (is_of_agents a)) actors ++ Actor.Agents ∷ []

-- the actors, in the order of their rounds
abbrev pub actors_of : LoneTenant → List Actor
actors_of l = agents_last (map (λ e. actor_at e.number) l.state.actors)
