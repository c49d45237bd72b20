-- Turns of the server of the tables, and what they give.
use Rattle.std.specs.Prelude.{ℕ, zero, suc, ◌+◌, ◌*◌, List, [], ◌∷◌, Option, Some, None, codes}
use Rattle.value_data.specs.Datum as datum
use Rattle.value_data.specs.Datum.{Datum, tenant}
use Rattle.repl_values.specs.Print.{print}
use Rattle.repl_replies.specs.Replies as replies
use Rattle.repl_replies.specs.Replies.{BodyData, bytes_of}
use Rattle.ref_table.specs.Numbered.{part_under}
use Rattle.server_rules.specs.Plan.{hears, drains}
use Rattle.server_rules.specs.Machine.World.{TenantData, World, does, opened_world}
use Rattle.server_rules.specs.Machine.Turns.{Turn, given, goes, world_after, serve}
use Rattle.server_rules.specs.declared.actor.Actor.{Actor}
use Rattle.server_rules.specs.Examples.Tables.{ground, sharing_ground}
use Rattle.server_rules.specs.Examples.Messages.{first_id, second_id, text_tree}

-- the tenant 0 or 1 sends one of its fourteen messages
abbrev pub message_turn : ℕ → ℕ → Turn
message_turn t message = given (does t (hears ((t * 14 + message) ∷ [])))

abbrev pub drain_turns : ℕ → ℕ → List Turn
drain_turns t zero = []
drain_turns t (suc n) = given (does t drains) ∷ drain_turns t n

-- so many turns of one of a tenant's sessions
abbrev pub turns_of : ℕ → ℕ → ℕ → List Turn
turns_of t session zero = []
turns_of t session (suc n) = goes t (Actor.Session session) ∷ turns_of t session n

-- two sessions, and `r` defined in the first
abbrev pub opening_turns : ℕ → List Turn
opening_turns t = message_turn t 0 ∷ message_turn t 0 ∷ message_turn t 1 ∷ turns_of t 0 5

-- turn by turn of one list and of the other
abbrev pub interleaving : List Turn → List Turn → List Turn
interleaving [] turns = turns
interleaving (turn ∷ more) [] = turn ∷ more
interleaving (turn ∷ more) (other ∷ others) = turn ∷ other ∷ interleaving more others

abbrev pub after_turns : World → List Turn → World
after_turns w [] = w
after_turns w (turn ∷ turns) = after_turns (world_after ground w turn) turns

abbrev pub after_all : List Turn → World
after_all turns = after_turns (opened_world ground) turns

-- what is given to a tenant in these turns of a new server
abbrev pub given_to : ℕ → List Turn → List ℕ
given_to t turns = serve ground (opened_world ground) turns t

-- the same of a server that shares a ref
abbrev pub given_with_shared : ℕ → List Turn → List ℕ
given_with_shared t turns = serve sharing_ground (opened_world sharing_ground) turns t

-- Replies

-- to a request in the first session of a tenant, and in its second
abbrev pub first_reply : ℕ → List ℕ → BodyData → List ℕ
first_reply t id body = bytes_of (record {
  origin = record { id = Some (text_tree id); session = Some (text_tree (first_id t)) };
  body = body;
})

abbrev pub second_reply : ℕ → List ℕ → BodyData → List ℕ
second_reply t id body = bytes_of (record {
  origin = record { id = Some (text_tree id); session = Some (text_tree (second_id t)) };
  body = body;
})

-- to a clone
abbrev pub session_reply : List ℕ → List ℕ
session_reply id = bytes_of (record {
  origin = record { id = None; session = None };
  body = replies.new_session id;
})

abbrev pub value_body : Datum → BodyData
value_body d = replies.value (print d) (codes "user")

-- to what begins each run: two clones, and a definition that gives the new ref
abbrev pub begun_replies : ℕ → List (List ℕ)
begun_replies t =
    session_reply (first_id t) ∷ session_reply (second_id t)
    ∷ first_reply t (codes "1") (value_body (datum.ref (tenant t) 0))
    ∷ first_reply t (codes "1") replies.done ∷ []

-- What is left of a tenant

abbrev pub steps_left : Option (Option TenantData) → Option ℕ
steps_left (Some (Some t)) = Some t.state.steps
steps_left _ = None

abbrev pub steps_of : ℕ → World → Option ℕ
steps_of t w = steps_left (part_under t w.tenants)
