-- The plan of each deed of a tenant, with its refusals in their order.
use Rattle.std.specs.Prelude.{ℕ, ◌==◌, List, [], ◌∷◌, Option, None, Some, is_some, if◌then◌else◌}
use Rattle.repl_replies.specs.Replies.{ReplyData, bytes_of}
use Rattle.ref_table.specs.Numbered.{part_under}
use Rattle.server_rules.specs.Ground.{Ground}
use Rattle.server_rules.specs.Request.{WorkInHand}
use Rattle.server_rules.specs.Tenant.{ActorData, seat_of, TenantState}
use Rattle.server_rules.specs.Hearing.{hearing_plan}
use Rattle.server_rules.specs.Starting.{start_in_hand, start_waiting}
use Rattle.server_rules.specs.Asking.{asked_of}
use Rattle.server_rules.specs.Ending.{end_of}
use Rattle.server_rules.specs.Plan.{Deed, hears, starts, asks_for, ends, drains, Outcome, refuses}
use Rattle.server_rules.specs.Plan.{leaves, reply_given, Plan, quietly}
use Rattle.server_rules.specs.declared.actor.Actor.{Actor}
use Rattle.server_rules.specs.declared.refusal.Refusal.{Refusal}

abbrev pub start_of : Ground → Actor → ActorData → TenantState → Option WorkInHand → Outcome
start_of g a actor q None = start_waiting g a actor q actor.waiting
start_of g a actor q (Some h) = start_in_hand g a actor h q (is_some h.running)

abbrev pub for_actor : Option ActorData → (ActorData → Plan) → Plan
for_actor None plan = quietly (refuses Refusal.NoSuchActor)
for_actor (Some actor) plan = plan actor

-- a tenant whose steps are used up takes none but drains
abbrev pub unless_worn : TenantState → Plan → Plan
unless_worn q plan = if q.steps == 0 then quietly (refuses Refusal.Worn) else plan

abbrev pub drain_outcome : TenantState → List ReplyData → Outcome
drain_outcome q [] = refuses Refusal.Idle
drain_outcome q (oldest ∷ more) = leaves (record q { replies = more })
    (reply_given (bytes_of oldest))

-- the plan of the tenant with this number
abbrev pub plan : Ground → ℕ → TenantState → Deed → Plan
plan g t q (hears piece) = hearing_plan g t piece q
plan g t q (starts a) = unless_worn q
    (for_actor (part_under (seat_of a) q.actors)
    (λ actor. quietly (start_of g a actor q actor.hand)))
plan g t q (asks_for a ask) = unless_worn q
    (for_actor (part_under (seat_of a) q.actors) (λ actor. asked_of g a actor ask q actor.hand))
plan g t q (ends a e) = unless_worn q
    (for_actor (part_under (seat_of a) q.actors) (λ actor. end_of g a actor e q actor.hand))
plan g t q drains = quietly (drain_outcome q q.replies)
