-- Hearing: what a piece of the stream makes of a tenant.
use Rattle.std.specs.Prelude.{ℕ, ◌==◌, List, [], ◌∷◌, ◌++◌, Option, None, Some, length, drop}
use Rattle.std.specs.Prelude.{if◌then◌else◌}
use Rattle.bencode_wire.specs.Tree.{Tree}
use Rattle.bencode_wire.specs.Stream.{StreamEnding, rest, fault}
use Rattle.bencode_wire.specs.Fault.{counted_place, fault_at}
use Rattle.bencode_wire.specs.declared.fault.WireFault.{WireFault}
use Rattle.repl_replies.specs.Replies.{no_origin, malformed, ReplyData}
use Rattle.server_rules.specs.Readings.{Readings}
use Rattle.server_rules.specs.Ground.{Ground}
use Rattle.server_rules.specs.Tenant.{TenantState, is_held, with_replies}
use Rattle.server_rules.specs.Replying.{reply}
use Rattle.server_rules.specs.Operating.{with_message}
use Rattle.server_rules.specs.Plan.{Outcome, refuses, leaves, messages_heard, Plan, quietly}
use Rattle.server_rules.specs.Plan.{with_step_spent}
use Rattle.server_rules.specs.declared.refusal.Refusal.{Refusal}

abbrev pub fault_in : StreamEnding → Option WireFault
fault_in (rest m) = None
fault_in (fault rule at) = Some (fault_at rule (counted_place at))

abbrev pub stream_fault : Readings → List ℕ → Option WireFault
stream_fault r bytes = fault_in (r.stream bytes).ending

abbrev pub with_messages : Ground → ℕ → List Tree → TenantState → TenantState
with_messages g t [] q = q
with_messages g t (m ∷ ms) q = with_messages g t ms (with_message g t m q)

-- the messages that become whole with this piece
abbrev pub new_messages : Readings → List ℕ → List ℕ → List Tree
new_messages r bytes piece =
    drop (length (r.stream bytes).messages) (r.stream (bytes ++ piece)).messages

-- a fault of the stream is told once
abbrev pub fault_told : Option WireFault → List ReplyData
fault_told None = []
fault_told (Some f) = reply no_origin malformed ∷ []

unfoldable pub taken_in : Ground → ℕ → List ℕ → TenantState → TenantState
taken_in g t piece q =
    with_replies (fault_told (stream_fault g.readings (q.heard ++ piece)))
    (with_messages g t (new_messages g.readings q.heard piece)
    (record q { heard = q.heard ++ piece }))

abbrev pub hears_more : Ground → ℕ → List ℕ → TenantState → Option WireFault → Outcome
hears_more g t piece q (Some f) = refuses (Refusal.Wire f)
hears_more g t piece q None =
    if is_held q then refuses Refusal.Held
    else leaves (with_step_spent (taken_in g t piece q))
    (messages_heard (length (new_messages g.readings q.heard piece)))

abbrev pub hearing_plan : Ground → ℕ → List ℕ → TenantState → Plan
hearing_plan g t piece q = quietly
    (if q.steps == 0 then refuses Refusal.Worn
    else hears_more g t piece q (stream_fault g.readings q.heard))
