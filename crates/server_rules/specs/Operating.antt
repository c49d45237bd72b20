-- What each operation makes of a tenant when it is heard (the nREPL manual, "Supported nREPL
-- operations").
use Rattle.std.specs.Prelude.{ℕ, List, [], ◌∷◌, ◌++◌, true, Option, None, Some, Result, Ok, Err}
use Rattle.std.specs.Prelude.{map}
use Rattle.bencode_wire.specs.Tree as wire
use Rattle.repl_sessions.specs.Ids.{IdsData, id_text}
use Rattle.repl_sessions.specs.Sessions as sessions
use Rattle.repl_sessions.specs.Named.{NamedSessions, number_named, ids_of}
use Rattle.repl_replies.specs.Replies as replies
use Rattle.repl_replies.specs.Replies.{OriginData, ReplyData}
use Rattle.repl_replies.specs.Operations as operations
use Rattle.repl_replies.specs.Operations.{AskedData, OperationData}
use Rattle.ref_table.specs.Numbered.{Entry, entry, part_under, with_part, without}
use Rattle.server_rules.specs.Ground.{Ground}
use Rattle.server_rules.specs.Request.{Waiting, ProgramText, code, file, WorkInHand}
use Rattle.server_rules.specs.Tenant.{ActorData, unoccupied, seat_of, TenantState, with_actor}
use Rattle.server_rules.specs.Tenant.{with_replies}
use Rattle.server_rules.specs.Replying.{reply}
use Rattle.server_rules.specs.declared.actor.Actor.{Actor}

-- the ids of the sessions of the tenant with this number
abbrev pub ids_for : Ground → ℕ → IdsData
ids_for g t = record { seed = g.seed; tenant = t }

abbrev pub named_sessions : Ground → ℕ → TenantState → NamedSessions
named_sessions g t q = record { ids = ids_for g t; sessions = q.sessions }

-- a session more, with the actor that runs its requests
abbrev pub with_clone : Ground → ℕ → OriginData → Option ℕ → TenantState → TenantState
with_clone g t origin original q =
    let number = q.sessions.opened in
    with_replies (reply origin (replies.new_session (id_text (ids_for g t) number)) ∷ [])
    (record q {
      sessions = sessions.with_clone_of q.sessions original;
      actors = q.actors ++ entry (seat_of (Actor.Session number)) unoccupied ∷ [];
    })

-- Closing

abbrev pub interruption : Waiting → ReplyData
interruption w = reply w.origin replies.interrupted

-- the actor is gone, or has a request in hand that is interrupted at its next step
abbrev pub with_vacated_seat : ℕ → Option WorkInHand → List (Entry ActorData) → List (Entry ActorData)
with_vacated_seat seat None actors = without seat actors
with_vacated_seat seat (Some h) actors =
    with_part seat (record { waiting = []; hand = Some h; is_closed = true }) actors

-- the requests that wait are answered, in order, and then the close itself
abbrev pub closed_by : OriginData → ℕ → TenantState → Option ActorData → TenantState
closed_by origin n q None = q
closed_by origin n q (Some actor) =
    with_replies (map interruption actor.waiting ++ reply origin replies.closed ∷ [])
    (record q {
      sessions = sessions.without_session q.sessions n;
      actors = with_vacated_seat (seat_of (Actor.Session n)) actor.hand q.actors;
    })

abbrev pub with_close : OriginData → ℕ → TenantState → TenantState
with_close origin n q = closed_by origin n q (part_under (seat_of (Actor.Session n)) q.actors)

-- Requests

abbrev pub asker : Option ℕ → Actor
asker None = Actor.Bare
asker (Some n) = Actor.Session n

abbrev pub queued_for : Actor → Waiting → TenantState → Option ActorData → TenantState
queued_for a w q None = q
queued_for a w q (Some actor) = with_actor a (record actor { waiting = actor.waiting ++ w ∷ [] }) q

abbrev pub with_queued : Actor → OriginData → ProgramText → TenantState → TenantState
with_queued a origin text q =
    queued_for a (record { origin = origin; text = text }) q (part_under (seat_of a) q.actors)

-- Each operation

abbrev pub after_operation : Ground → ℕ → OriginData → OperationData → TenantState → TenantState
after_operation g t origin (operations.clone original) q = with_clone g t origin original q
after_operation g t origin (operations.close n) q = with_close origin n q
after_operation g t origin (operations.describe session) q =
    with_replies (reply origin replies.described ∷ []) q
after_operation g t origin (operations.list_sessions session) q =
    with_replies (reply origin (replies.sessions (ids_of (named_sessions g t q))) ∷ []) q
after_operation g t origin (operations.eval session text ns) q =
    with_queued (asker session) origin (code text ns) q
after_operation g t origin (operations.load_file session text) q =
    with_queued (asker session) origin (file text) q

abbrev pub with_asked : Ground → ℕ → Result AskedData ReplyData → TenantState → TenantState
with_asked g t (Ok asked) q = after_operation g t asked.origin asked.operation q
with_asked g t (Err refusal) q = with_replies (refusal ∷ []) q

-- a message is a dictionary
unfoldable pub with_message : Ground → ℕ → wire.Tree → TenantState → TenantState
with_message g t (wire.dictionary fields) q =
    with_asked g t (operations.operation_or_reply (number_named (named_sessions g t q)) fields) q
with_message g t _ q = q
